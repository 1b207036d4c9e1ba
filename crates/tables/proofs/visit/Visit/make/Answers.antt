-- A visit made. Assumes nothing.
use Rattle.tables.proofs.Visiting.{visit_barren, visit_done}
use Rattle.tables.proofs.visit.Visit.make.Goals as goal

pub returns-then-is_barren : goal.returns-then-is_barren
returns-then-is_barren c = visit_barren _ _ _ _ _ (c.is_barren.ensures c.if-is_barren.true)

pub returns : goal.returns
returns c = visit_done _ c.args.book.now c.args.at c.base-s.ensures c.gather.ensures
