use Rattle.std.proofs.Common.{arith, refl}
use Rattle.std.proofs.lemmas.Result.{err_from_is_err_and}
use Rattle.numbering.proofs.Calls.{start_low}
use Rattle.numbering.proofs.Choosing.{choice_up, choice_root, choice_ended, choice_down}
use Rattle.numbering.proofs.choice.choose.Goals as goal

pub returns-in_err-read_upward : goal.returns-in_err-read_upward
returns-in_err-read_upward c =
    let p = err_from_is_err_and c.from_residual.result c.from_residual.ensures.1 in
    rw (p.1, p.2) (choice_up c.in_err-read_upward.ensures)

pub bounds-call-start : goal.bounds-call-start
bounds-call-start c = omega (arith, start_low c.args.call.now c.start-start.ensures, c.args.call.now.feasible_counted)

pub returns-then-call-start : goal.returns-then-call-start
returns-then-call-start c =
    choice_root c.in_ok-read_upward.ensures c.read_upward.array_long c.start-start.ensures c.started-root.ensures c.if-call-start.true _ c.at.ensures

pub read_downward-requires : goal.read_downward-requires
read_downward-requires c =
    choice_ended c.in_ok-read_upward.ensures c.read_upward.array_long c.start-start.ensures c.started-root.ensures c.if-call-start.false _ refl refl refl

pub returns : goal.returns
returns c =
    choice_down c.in_ok-read_upward.ensures c.read_upward.array_long c.start-start.ensures c.started-root.ensures c.if-call-start.false _ refl refl refl c.read_downward.ensures
