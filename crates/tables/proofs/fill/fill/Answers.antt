-- A table, production by production. Assumes nothing.
use native.Mathlib.Omega.{arith}
use Rattle.book.specs.Format.{prods}
use Rattle.tables.specs.Shape.{shape_of, base_of}
use Rattle.tables.proofs.EntryCounts.{opened_below, opened_readable, opened_base, opened_shape}
use Rattle.tables.proofs.FillRuns.{filling_begun, filling_room, filling_next, filling_done}
use Rattle.tables.proofs.fill.fill.Goals as goal

pub loop-at-init : goal.loop-at-init
loop-at-init g c =
    let t = g.T.Table in
    let b = c.args.book.now in
    filling_begun (λ p. t.many c.args.table.now (shape_of b p)) (prods b) (λ p. t.holds c.args.table.now (shape_of b p) (base_of b p)) c.requires.2

pub base-s-requires : goal.base-s-requires
base-s-requires g c = opened_readable c.requires.0 c.loop-at-test.true

pub run-to-requires : goal.run-to-requires
run-to-requires g c =
    let o = c.requires.0 in
    let l = c.loop-at-test.true in
    let p = opened_below o l in
    rw (opened_shape o l c.of-v.ensures, opened_base o l c.base-s.ensures) (c.requires.1 _ p, filling_room c.loop-at.invariant p)

pub loop-at-preserved : goal.loop-at-preserved
loop-at-preserved g c =
    let o = c.requires.0 in
    let l = c.loop-at-test.true in
    filling_next c.loop-at.invariant (opened_below o l) (rw (opened_shape o l c.of-v.ensures, opened_base o l c.base-s.ensures) at c.run-to.ensures)

pub returns : goal.returns
returns g c = filling_done c.loop-at.invariant (omega (arith, c.requires.0.many))
