-- The zeros below a set's lowest one are the numbers before its first.
use Rattle.blocks.proofs.SetMembers.{first_is}
use Rattle.blocks.proofs.first_occurrence.Goals as goal

pub returns : goal.returns
returns c = first_is c.args.set
