-- The entries of all productions, of both tables. Assumes nothing.
use mathlib.Core.Path.{refl}
use native.Mathlib.Omega.{arith}
use Rattle.ranks.specs.Entries.{up_start, down_start}
use Rattle.tables.proofs.EntryCounts.{opened_countable, up_sum, up_fits, down_sum, down_fits}
use Rattle.tables.proofs.totals.totals.Goals as goal

pub loop-at-init : goal.loop-at-init
unfolding up_start down_start
loop-at-init c = (refl, refl)

pub choices-many-requires : goal.choices-many-requires
choices-many-requires c = opened_countable c.requires.0 c.loop-at-test.true c.of-v.ensures c.requires.1

pub overflow_add-all : goal.overflow_add-all
overflow_add-all c =
    let (o, s, _) = c.requires in
    omega (arith, up_fits o s c.loop-at-test.true c.of-v.ensures c.choices-many.ensures.0 c.loop-at.invariant.0)

pub overflow_add-all-in-loop-at : goal.overflow_add-all-in-loop-at
overflow_add-all-in-loop-at c =
    let (o, s, f) = c.requires in
    omega (arith, down_fits o s c.loop-at-test.true c.of-v.ensures f c.choices-many.ensures.0 c.kind.ensures refl c.loop-at.invariant.1)

pub loop-at-preserved : goal.loop-at-preserved
loop-at-preserved c =
    let (o, s, f) = c.requires in
    let l = c.loop-at-test.true in
    let m = c.choices-many.ensures.0 in
    (up_sum o s l c.of-v.ensures m c.loop-at.invariant.0, down_sum o s l c.of-v.ensures f m c.kind.ensures refl c.loop-at.invariant.1)
