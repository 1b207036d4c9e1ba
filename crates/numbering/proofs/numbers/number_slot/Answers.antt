use Rattle.std.proofs.Common.{arith, add-one, ◌∙◌}
use Rattle.numbering.proofs.Slots.{slot_none, slot_turn, slot_done}
use Rattle.numbering.proofs.numbers.number_slot.Goals.{then-is_none, else-is_none}
use Rattle.numbering.proofs.numbers.number_slot.Goals as goal

pub loop-a-init : goal.loop-a-init
loop-a-init c = slot_none

pub overflow_add-next : goal.overflow_add-next
overflow_add-next c = omega (arith, c.loop-a.invariant.few)

pub loop-a-preserved : goal.loop-a-preserved
loop-a-preserved c =
    slot_turn c.loop-a.invariant c.requires.slot c.requires.settings c.loop-a-test.true c.label-label.ensures c.hold-earlier.ensures c.unwrap_or.ensures
    (elim c.if-is_none.branch [ then-is_none w ↦ rw w.if-is_none.ensures (w.next-is ∙ add-one _) | else-is_none w ↦ rw w.if-is_none.ensures w.next-is ])

pub returns : goal.returns
returns c = slot_done c.loop-a.invariant (omega arith)
