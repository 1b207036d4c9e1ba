-- The down entries of a production, for each member of the left kind. Assumes nothing.
use native.Mathlib.Omega.{arith}
use Rattle.tables.specs.Fill.{DownBytes}
use Rattle.tables.proofs.FillChoices.{slot_tied, feed_asks, feed_room, feed_next}
use Rattle.tables.proofs.FillRuns.{blocks_begun}
use Rattle.tables.proofs.fill.DownTable.run.Goals as goal

pub loop-code-init : goal.loop-code-init
loop-code-init c = blocks_begun _ _ _ _ _ _ c.requires.1

pub lay-to-requires : goal.lay-to-requires
lay-to-requires c =
    let h = c.requires.0 in
    let a = c.args in
    let f = a.self.now.feasible in
    let (m, q) = slot_tied a.v 0 (h.left 0 (omega arith)) c.kind.ensures c.members-code-items.ensures c.loop-code-test.true a.s.now c.tied-t.ensures in
    (omega arith, feed_asks h m q, feed_room h m q (DownBytes f.codes.now f.counts.now a.v) c.loop-code.invariant)

pub loop-code-preserved : goal.loop-code-preserved
loop-code-preserved c =
    let h = c.requires.0 in
    let a = c.args in
    let f = a.self.now.feasible in
    let (m, q) = slot_tied a.v 0 (h.left 0 (omega arith)) c.kind.ensures c.members-code-items.ensures c.loop-code-test.true a.s.now c.tied-t.ensures in
    feed_next h m q (DownBytes f.codes.now f.counts.now a.v) c.loop-code.invariant c.lay-to.ensures
