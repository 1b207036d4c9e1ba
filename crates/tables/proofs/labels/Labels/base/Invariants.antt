-- The base grouping of a production. Assumes nothing.
use Rattle.tables.proofs.StateLoops.{Basing}
use Rattle.tables.proofs.labels.Labels.base.Given as goal

abbrev pub invariant-loop-i : goal.invariant-loop-i
invariant-loop-i l = Basing l.book l.at l.s l.i
