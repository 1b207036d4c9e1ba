-- A slot tied as a code groups it. Assumes nothing.
use Rattle.tables.proofs.StateLoops.{tie_turn, tie_done}
use Rattle.tables.proofs.labels.Labels.tie.Goals as goal

pub loop-x-preserved : goal.loop-x-preserved
loop-x-preserved c = tie_turn c.loop-x.invariant _ _ c.loop-x-test.true c.first_alike-y.ensures c.merge.ensures

pub returns : goal.returns
returns c = tie_done c.loop-x.invariant c.loop-x-test.false
