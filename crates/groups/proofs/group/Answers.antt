use Rattle.std.proofs.Common.{Ok, Err}
use Rattle.std.proofs.lemmas.Result.{err_from_is_err_and}
use Rattle.numbering.specs.Walk.{tables}
use Rattle.numbering.specs.Promise.{lent}
use Rattle.numbering.specs.Answer.{said}
use Rattle.groups.proofs.Answering.{printable, said_text}
use Rattle.groups.proofs.group.Goals as goal

pub returns-in_err-counts : goal.returns-in_err-counts
returns-in_err-counts c =
    let m = c.group_sheet.new in
    let p = err_from_is_err_and c.from_residual.result c.from_residual.ensures.1 in
    rw (p.1, p.2) (said_text (said (Err c.in_err-counts.field-0.0)) (lent m.nodes m.groups) c.in_err-counts.ensures)

pub accepted-requires : goal.accepted-requires
accepted-requires c =
    let a = c.args in
    let done = c.group_sheet in
    let by = tables a.plausible_counts.now a.feasible_counts.now a.up.now a.down.now in
    printable a.book.now a.sheet.now by (lent done.new.nodes done.new.groups) c.in_ok-counts.ensures done.auto.nodes done.auto.groups
    c.requires (λ i. (c.type_inv.up i).fits) (λ i. (c.type_inv.down i).fits)

pub returns : goal.returns
returns c =
    let m = c.group_sheet.new in
    rw c.accepted.ensures (said_text (said (Ok c.in_ok-counts.counts)) (lent m.nodes m.groups) c.in_ok-counts.ensures)
