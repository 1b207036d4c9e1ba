use native.Mathlib.Omega.{arith}
use Rattle.groups.proofs.Adding.{followed, held_all}
use Rattle.groups.proofs.Measuring.{printed_short}
use Rattle.groups.proofs.print.accepted.Goals as goal

pub returns : goal.returns
returns c =
    let a = c.args in
    let n = a.counts in
    held_all
    c.clear.ensures
    (followed c.first_line.ensures c.node_lines.ensures)
    (printed_short
    c.requires
    (record { bytes = λ i. (c.type_inv.sheet i).fits; groups = λ i. (c.type_inv.groups i).fits })
    n.nodes
    n.settings
    n.groups
    (omega arith)
    (omega arith)
    (omega arith))
