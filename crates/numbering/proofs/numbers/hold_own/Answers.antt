use Rattle.numbering.proofs.Slots.{own_none, own_turn, own_done}
use Rattle.numbering.proofs.numbers.hold_own.Goals as goal

pub loop-a-init : goal.loop-a-init
loop-a-init c = own_none

pub loop-a-preserved : goal.loop-a-preserved
loop-a-preserved c = own_turn c.loop-a.invariant c.loop-a-test.true c.requires c.label.ensures c.hold.ensures

pub returns : goal.returns
returns c = own_done c.loop-a.invariant c.loop-a-test.false
