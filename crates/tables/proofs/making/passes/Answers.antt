-- The passes one behind the other. Assumes nothing.
use mathlib.Core.Path.{◌≡◌}
use Rattle.std.proofs.Common.{rules}
use Rattle.std.proofs.lemmas.Result.{err_from_is_err_and}
use Rattle.refusals.specs.declared.Refusal.TheVariants.{ManyPlausible, ManyFeasible}
use Rattle.tables.specs.Making.{Passed, over_plausible, over_feasible, both_hold}
use Rattle.tables.proofs.Sweeping.{holds_exact}
use Rattle.tables.proofs.BuildSteps.{was_done, was_over, was_told}
use Rattle.tables.proofs.making.passes.Goals as goal

pub returns-in_err-map_err : goal.returns-in_err-map_err
returns-in_err-map_err c =
    let u = c.upward.ensures in
    let p = err_from_is_err_and c.from_residual.result c.from_residual.ensures.1 in
    let (o, w) = was_over c.upward.result c.in_err-map_err.field-0.0 u.over c.in_err-map_err.ensures.cases in
    let q = w.1 in
    let e : c.in_err-map_err.field-0.0 ≡ record { refusal = ManyPlausible; place = 0 } = search rules in
    rw (p.1, p.2, e) (over_plausible o)

pub downward-requires : goal.downward-requires
downward-requires c =
    let (i, r) = c.requires in
    let u = c.upward.ensures in
    (i, holds_exact r.plausible r.plausible_counts (was_done c.upward.result u.holds c.in_ok-map_err.ensures.variant), r.feasible, r.feasible_counts)

pub returns : goal.returns
returns c =
    let o = c.args in
    let u = c.upward.ensures in
    let d = c.downward.ensures in
    let w = was_done c.upward.result u.holds c.in_ok-map_err.ensures.variant in
    was_told (Passed o.book.now o.plausible.now o.counts.now o.feasible.now o.tally.now c.upward.new.sets c.upward.new.counts c.downward.new.feasible c.downward.new.tally)
    (record { refusal = ManyFeasible; place = 0 }) c.downward.result c.map_err-2.result d.holds d.over c.map_err-2.ensures.cases
    (λ f e q. search rules) (λ h. both_hold w h) (λ h. over_feasible w h)
