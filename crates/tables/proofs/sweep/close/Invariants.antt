-- Sweeps until one adds nothing. Assumes nothing.
use Rattle.tables.specs.Memory.{room}
use Rattle.tables.proofs.Sweeping.{Closing}
use Rattle.tables.proofs.sweep.close.Given as goal

abbrev pub invariant-loop : goal.invariant-loop
invariant-loop g l = Closing (g.P.Pass.steps l.pass) l.initial.sets l.initial.counts l.marks l.sets l.counts

abbrev pub decreases-loop : goal.decreases-loop
decreases-loop g l = room l.counts
