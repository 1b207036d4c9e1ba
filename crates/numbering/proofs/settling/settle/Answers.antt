-- Each exit has its own law.
use Rattle.std.proofs.lemmas.Result.{err_from_is_err_and}
use Rattle.numbering.proofs.Filling.{filled}
use Rattle.numbering.proofs.Settled.{unrefused, settled_big, settled_bad, settled_walkable, settled_well}
use Rattle.numbering.proofs.settling.settle.Goals as goal

pub invariant_of-call : goal.invariant_of-call
invariant_of-call c =
    let clear = c.requires.clear in
    record { unrefused = unrefused clear; indexed = c.index.ensures; plausible_counted = clear.plausible_counts; feasible_counted = clear.feasible_counts }

pub returns-then-too_many : goal.returns-then-too_many
returns-then-too_many c = settled_big c.requires.clear c.too_many.ensures c.if-too_many.true _ c.at.ensures

pub returns-in_err-choose : goal.returns-in_err-choose
returns-in_err-choose c =
    let p = err_from_is_err_and c.from_residual.result c.from_residual.ensures.1 in
    rw (p.1, p.2) (settled_bad c.requires.clear c.too_many.ensures c.if-too_many.false c.in_err-choose.ensures)

pub number_all-used-requires-clause-walkable : goal.number_all-used-requires-clause-walkable
number_all-used-requires-clause-walkable c = settled_walkable c.in_ok-choose.ensures

pub returns : goal.returns
returns c =
    let written = filled c.choose.array_long c.tell.ensures c.number_all-used.ensures in
    settled_well c.requires.clear c.too_many.ensures c.if-too_many.false c.in_ok-choose.ensures c.requires.nodes c.requires.settings written
