-- The sets, then the tables over them. Assumes nothing.
use Rattle.std.proofs.lemmas.Result.{err_from_is_err_and}
use Rattle.tables.specs.Answer.{said, lent}
use Rattle.tables.proofs.EntryCounts.{opened_by}
use Rattle.tables.proofs.BuildSteps.{passed_settled, stopped, worked}
use Rattle.tables.proofs.making.make.Goals as goal

pub returns-in_err-passes : goal.returns-in_err-passes
returns-in_err-passes c =
    let o = c.args in
    let k = c.passes.new in
    let p = err_from_is_err_and c.from_residual.result c.from_residual.ensures.1 in
    rw (p.1, p.2) (stopped c.requires _ _ (lent k.plausible k.counts k.feasible k.tally o.up.now o.down.now) c.in_err-passes.ensures)

pub write_tables-requires : goal.write_tables-requires
write_tables-requires c =
    let r = c.requires in
    (opened_by r.book c.index-index.ensures c.productions.ensures, passed_settled r.room c.in_ok-passes.ensures)

pub returns : goal.returns
returns c = worked c.requires (said c.write_tables.result) c.in_ok-passes.ensures c.write_tables.ensures
