-- The number of a production's choices. Assumes nothing.
use Rattle.tables.proofs.EntryCounts.{Multiplying}
use Rattle.tables.proofs.totals.choices.Given as goal

abbrev pub invariant-loop-child : goal.invariant-loop-child
invariant-loop-child l = Multiplying l.fn.v l.counts l.product l.child-index
