use Rattle.numbering.proofs.Slots.{Owning}
use Rattle.numbering.proofs.numbers.hold_own.Given as goal

abbrev pub invariant-loop-a : goal.invariant-loop-a
invariant-loop-a l = Owning l.down l.entry l.stamp l.numbers l.initial.holders l.holders l.a
