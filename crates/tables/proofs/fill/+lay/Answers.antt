-- `lay` meets its contract, with the children left as the number that falls at each call of itself. Assumes nothing.
use native.Mathlib.Omega.{arith}
use Prim.Native.Nat.{◌+◌, ◌-◌}
use Rattle.tables.proofs.Shapes.{first_slot}
use Rattle.tables.proofs.FillChoices.{slot_long, slot_tied, leaf_asks, leaf_room, leaf_laid, lay_begun, lay_asks, lay_room, lay_next, lay_done}
use Rattle.tables.proofs.fill.+lay.Goals as goal

pub put-requires : goal.put-requires
put-requires g t c =
    let h = c.requires.1 in
    let e = c.if-left-eq0.true in
    (h.ready, leaf_asks h e, leaf_room h e _ _ c.requires.2)

pub returns-then-left-eq0 : goal.returns-then-left-eq0
returns-then-left-eq0 g t c = leaf_laid c.requires.1 c.if-left-eq0.true (g.E.Entry.says c.args.table.now c.args.v) c.put.ensures

pub loop-code-init : goal.loop-code-init
loop-code-init g t c =
    let q = c.requires in
    lay_begun q.1 q.0 c.if-left-eq0.false (omega arith) (g.E.Entry.says c.args.table.now c.args.v) c.args.out.now q.2

pub lay-to-requires : goal.lay-to-requires
lay-to-requires g t c κs within =
    let (l, h, _) = c.requires in
    let a = c.args in
    let slot = a.v.arity + 1 - a.left in
    let first = first_slot a.v a.left in
    let (m, q) = slot_tied a.v slot (h.placed slot (omega arith)) c.kind.ensures c.members-code-items.ensures c.loop-code-test.true a.s.now c.tied-t.ensures in
    (omega arith, (within, (omega arith, lay_asks h l c.if-left-eq0.false first m q, lay_room h l c.if-left-eq0.false first m q (g.E.Entry.says a.table.now a.v) c.loop-code.invariant)))

pub loop-code-preserved : goal.loop-code-preserved
loop-code-preserved g t c =
    let (l, h, _) = c.requires in
    let a = c.args in
    let slot = a.v.arity + 1 - a.left in
    let (m, q) = slot_tied a.v slot (h.placed slot (omega arith)) c.kind.ensures c.members-code-items.ensures c.loop-code-test.true a.s.now c.tied-t.ensures in
    lay_next h l c.if-left-eq0.false (first_slot a.v a.left) m q (g.E.Entry.says a.table.now a.v) c.loop-code.invariant c.lay-to.ensures

pub returns : goal.returns
returns g t c =
    let (l, h, _) = c.requires in
    let a = c.args in
    let slot = a.v.arity + 1 - a.left in
    let n = slot_long a.v slot (h.placed slot (omega arith)) c.kind.ensures c.members-code-items.ensures in
    lay_done h l c.if-left-eq0.false (first_slot a.v a.left) (g.E.Entry.says a.table.now a.v) c.loop-code.invariant (omega arith)
