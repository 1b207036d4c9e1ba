-- The build: the book is checked, its sets are measured, then the sets and the tables are made; after a refusal of these all is wiped.
use Rattle.std.proofs.lemmas.Result.{err_from_is_err_and}
use Rattle.tables.specs.Answer.{lent}
use Rattle.tables.proofs.Building.{built_of_book, built_short, built_ready, built, wiped_same, left}
use Rattle.tables.proofs.build.Goals as goal

pub returns-in_err-checked : goal.returns-in_err-checked
returns-in_err-checked c =
    let p = err_from_is_err_and c.from_residual.result c.from_residual.ensures.1 in
    rw (p.1, p.2) (built_of_book _ _ c.in_err-checked.field-0.0 c.in_err-checked.ensures)

pub returns-then-too_short : goal.returns-then-too_short
returns-then-too_short c =
    let o = c.args in
    let m = lent o.plausible.now o.counts.now o.feasible.now o.tally.now o.up.now o.down.now in
    rw c.at.ensures (built_short m c.in_ok-checked.ensures c.too_short.ensures c.if-too_short.true)

pub make-built-requires : goal.make-built-requires
make-built-requires c =
    let o = c.args in
    let m = lent o.plausible.now o.counts.now o.feasible.now o.tally.now o.up.now o.down.now in
    built_ready m c.in_ok-checked.ensures c.too_short.ensures c.if-too_short.false

pub returns : goal.returns
returns c =
    let o = c.args in
    let m = lent o.plausible.now o.counts.now o.feasible.now o.tally.now o.up.now o.down.now in
    let k = c.make-built in
    let n = k.new in
    let s = k.auto in
    let w = c.wipe.ensures in
    let m' = lent n.plausible n.counts n.feasible n.tally n.up n.down in
    built _ m m' _ k.result c.is_err.result k.ensures c.is_err.ensures.value
    (wiped_same m m' s.plausible s.counts s.feasible s.tally s.up s.down)
    (left c.is_err.result n.plausible n.counts n.feasible n.tally n.up n.down _ _ _ _ _ _ w.0 w.1 w.2 w.3 w.4 w.5)
