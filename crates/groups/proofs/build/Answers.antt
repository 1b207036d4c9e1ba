use Rattle.std.proofs.Common.{refl, rules}
use Rattle.std.proofs.lemmas.Result.{err_from_is_err_and}
use Rattle.tables.specs.Answer.{lent}
use Rattle.groups.specs.Answers.{BookText, not_built}
use Rattle.groups.proofs.Answering.{built_text}
use Rattle.groups.proofs.build.Goals as goal

pub returns-in_err-build : goal.returns-in_err-build
returns-in_err-build c =
    let m = c.build.new in
    let left = lent m.plausible m.counts m.feasible m.tally m.up m.down in
    let p = err_from_is_err_and c.from_residual.result c.from_residual.ensures.1 in
    rw (p.1, p.2) (not_built _ _ left c.in_err-build.ensures refl)

pub returns : goal.returns
returns c =
    let m = c.build.new in
    let left = lent m.plausible m.counts m.feasible m.tally m.up m.down in
    built_text _ _ c.group.result left c.in_ok-build.ensures c.group.ensures
