-- The code of a slot. Assumes nothing.
use Rattle.tables.proofs.StateNumbers.{Viewing}
use Rattle.tables.proofs.labels.Labels.view.Given as goal

abbrev pub invariant-loop-x : goal.invariant-loop-x
invariant-loop-x l = Viewing l.label-items l.numbers l.code l.x
