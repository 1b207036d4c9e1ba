use native.Mathlib.Omega.{arith}
use Rattle.groups.proofs.Adding.{added, held_all}
use Rattle.groups.proofs.Printing.{refusal_text}
use Rattle.groups.proofs.Measuring.{refusal_short}
use Rattle.groups.proofs.print.refused.Goals as goal

pub returns : goal.returns
returns c =
    let place = c.args.refused.place in
    let text = refusal_text _ place (added c.add.ensures) c.next_number.ensures c.next_number-2.ensures (added c.add-2.ensures) in
    held_all c.clear.ensures (rw c.number.ensures at text) (rw (← c.number.ensures) (refusal_short _ place (omega arith) (omega arith)))
