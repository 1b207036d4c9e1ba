-- The base grouping of a production. Assumes nothing.
use Rattle.tables.proofs.StateLoops.{base_begun, base_turn, base_done}
use Rattle.tables.proofs.labels.Labels.base.Goals as goal

pub loop-i-init : goal.loop-i-init
loop-i-init c =
    let a = c.args in
    base_begun a.book.now a.at _ c.apart-s.ensures

pub loop-i-preserved : goal.loop-i-preserved
loop-i-preserved c =
    let l = rw c.pairs-i-end.ensures at c.loop-i-test.true in
    base_turn c.loop-i.invariant c.requires _ _ _ l c.to.ensures c.from.ensures c.merge.ensures

pub returns : goal.returns
returns c = base_done c.loop-i.invariant c.requires (rw c.pairs-i-end.ensures at c.loop-i-test.false)
