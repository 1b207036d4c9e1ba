use Rattle.bookcheck.proofs.Laying.{Treading}
use Rattle.bookcheck.proofs.layout.walks.Given as goal

abbrev pub invariant-loop-rest : goal.invariant-loop-rest
invariant-loop-rest l = Treading l.book l.n l.at l.rest l.here

abbrev pub decreases-loop-rest : goal.decreases-loop-rest
decreases-loop-rest l = l.rest
