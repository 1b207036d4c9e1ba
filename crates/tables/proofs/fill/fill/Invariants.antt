-- A table, production by production. Assumes nothing.
use Rattle.book.specs.Format.{prods}
use Rattle.tables.specs.Shape.{shape_of, base_of}
use Rattle.tables.proofs.FillRuns.{Filling}
use Rattle.tables.proofs.fill.fill.Given as goal

abbrev pub invariant-loop-at : goal.invariant-loop-at
invariant-loop-at g l =
    let t = g.T.Table in
    Filling g.T.Entry.size (λ p. t.many l.table (shape_of l.book p)) (prods l.book) (λ p. t.holds l.table (shape_of l.book p) (base_of l.book p)) l.initial.out l.out l.to l.at-index
