-- The ranks of all children. Assumes nothing.
use native.Mathlib.Omega.{arith}
use Rattle.tables.proofs.FillEntry.{no_ranks, more_ranks, ranks_done}
use Rattle.tables.proofs.entry.put_ranks.Goals as goal

pub loop-j-init : goal.loop-j-init
loop-j-init c = no_ranks _ _ _ _ _ _

pub bounds-out-at : goal.bounds-out-at
bounds-out-at c = omega (arith, c.loop-j.invariant.long)

pub loop-j-preserved : goal.loop-j-preserved
loop-j-preserved c = more_ranks c.loop-j.invariant (omega arith) c.feasible_rank.ensures

pub returns : goal.returns
returns c = ranks_done c.loop-j.invariant (omega arith)
