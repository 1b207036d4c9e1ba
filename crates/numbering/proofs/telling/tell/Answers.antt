use Rattle.std.proofs.Common.{arith}
use Rattle.numbering.proofs.Rows.{telling_none, telling_turn, telling_done}
use Rattle.numbering.proofs.telling.tell.Goals as goal

pub loop-i-init : goal.loop-i-init
loop-i-init c = telling_none

pub loop-i-preserved : goal.loop-i-preserved
loop-i-preserved c = telling_turn c.loop-i.invariant c.loop-i-test.true c.copy_from_slice.ensures.after

pub returns : goal.returns
returns c = telling_done c.loop-i.invariant (omega arith)
