use Rattle.groups.proofs.Adding.{added}
use Rattle.groups.proofs.Printing.{totals_text}
use Rattle.groups.proofs.print.first_line.Goals as goal

pub returns : goal.returns
returns c =
    let a = c.args.counts in
    totals_text a.nodes a.settings a.groups (added c.add.ensures) c.next_number.ensures c.next_number-2.ensures c.next_number-3.ensures
    (added c.add-2.ensures)
