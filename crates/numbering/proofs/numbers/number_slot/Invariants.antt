use Rattle.numbering.proofs.Slots.{Slotting}
use Rattle.numbering.proofs.numbers.number_slot.Given as goal

abbrev pub invariant-loop-a : goal.invariant-loop-a
invariant-loop-a l = Slotting l.down l.entry l.slot l.stamp l.first l.initial.holders l.initial.groups l.holders l.groups l.next l.a
