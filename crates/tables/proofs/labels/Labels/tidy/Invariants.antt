-- A state tidied. Assumes nothing.
use Rattle.tables.proofs.StateNumbers.{Tidying}
use Rattle.tables.proofs.labels.Labels.tidy.Given as goal

abbrev pub invariant-loop-label : goal.invariant-loop-label
invariant-loop-label l = Tidying l.initial.label-items l.label-items l.numbers l.label-index
