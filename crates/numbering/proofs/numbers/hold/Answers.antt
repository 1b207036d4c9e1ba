use Rattle.std.proofs.Common.{arith}
use Rattle.numbering.proofs.Holders.{held_again, held_first}
use Rattle.numbering.proofs.numbers.hold.Goals as goal

pub returns-then-holder-stamp : goal.returns-then-holder-stamp
returns-then-holder-stamp c = held_again _ (omega arith) c.if-holder-stamp.true

pub returns : goal.returns
returns c = held_first _ (omega arith) c.if-holder-stamp.false
