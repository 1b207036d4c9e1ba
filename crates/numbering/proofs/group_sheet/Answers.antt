-- What keeps the sheet out, or what it comes to.
use Rattle.std.proofs.lemmas.Result.{err_from_is_err_and}
use Rattle.numbering.specs.Walk.{tables}
use Rattle.numbering.specs.Promise.{lent}
use Rattle.numbering.proofs.Settled.{let_in, kept_out}
use Rattle.numbering.proofs.group_sheet.Goals as goal

pub returns-in_err-counts : goal.returns-in_err-counts
returns-in_err-counts c =
    let p = err_from_is_err_and c.from_residual.result c.from_residual.ensures.1 in
    rw (p.1, p.2)
    (kept_out (tables c.args.plausible_counts.now c.args.feasible_counts.now c.args.up.now c.args.down.now) (lent c.args.nodes.now c.args.groups.now) _ c.in_err-counts.ensures)

pub settle-requires : goal.settle-requires
settle-requires c =
    let (clear, nodes, settings) = let_in (tables c.args.plausible_counts.now c.args.feasible_counts.now c.args.up.now c.args.down.now) (lent c.args.nodes.now c.args.groups.now) c.in_ok-counts.ensures in
    record { clear = clear; nodes = nodes; settings = settings }
