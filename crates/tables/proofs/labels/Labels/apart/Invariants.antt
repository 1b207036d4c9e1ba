-- Every occurrence by itself. Assumes nothing.
use Rattle.tables.specs.State.{own}
use Rattle.tables.proofs.StateLoops.{Laying}
use Rattle.tables.proofs.labels.Labels.apart.Given as goal

abbrev pub invariant-loop-o : goal.invariant-loop-o
invariant-loop-o l = Laying (own l.book l.at) l.label-items l.o
