-- A sweep, production by production. Assumes nothing.
use Rattle.tables.proofs.Sweeping.{OnSweep}
use Rattle.tables.proofs.sweep.sweep.Given as goal

abbrev pub invariant-loop-p : goal.invariant-loop-p
invariant-loop-p g l = OnSweep (g.P.Pass.steps l.pass) l.initial.sets l.initial.counts l.marks l.sets l.counts l.added l.p
