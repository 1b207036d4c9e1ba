-- Each exit has its own law.
use Rattle.std.proofs.Common.{rules, arith}
use Rattle.admission.proofs.Measured.{turned_away, sound_by, turned_short, turned_later, measured_short}
use Rattle.admission.proofs.admit.Goals as goal

pub returns-then-is_err_and : goal.returns-then-is_err_and
returns-then-is_err_and c = turned_away c.args.book.now _ c.args.lengths _ c.check_sheet-checked.ensures (grind arith)

pub too_short-requires : goal.too_short-requires
too_short-requires c = sound_by _ c.args.sheet.now _ c.check_sheet-checked.ensures (λ e x. search rules)

pub returns-then-too_short : goal.returns-then-too_short
returns-then-too_short c =
    let sound = sound_by c.args.book.now c.args.sheet.now _ c.check_sheet-checked.ensures (λ e x. search rules) in
    turned_short _ c.args.sheet.now c.args.lengths c.at.ensures sound (search rules)

pub returns-in_err-counts : goal.returns-in_err-counts
returns-in_err-counts c =
    let due = turned_later c.args.book.now c.args.sheet.now c.args.lengths (search rules) _ c.in_err-counts.ensures in
    search (rules, due)

pub returns-then-lengths-from : goal.returns-then-lengths-from
returns-then-lengths-from c =
    measured_short c.args.book.now c.args.sheet.now c.args.lengths (search rules) _ c.in_ok-counts.ensures c.at-then-lengths-from.ensures (grind arith)
