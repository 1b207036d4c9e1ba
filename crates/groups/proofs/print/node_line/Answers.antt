use Prim.Native.Nat.{ℕ, ◌+◌, ◌*◌}
use mathlib.Core.Path.{◌≡◌, ap}
use mathlib.Core.List.{◌∷◌}
use native.Mathlib.Omega.{arith}
use lib.ListN.{get_or}
use Rattle.text.specs.Decimals.{decimals}
use Rattle.groups.specs.Printed.{blank}
use Rattle.groups.proofs.Adding.{added, same_text}
use Rattle.groups.proofs.Printing.{line_text, numbers_begun, numbers_turn, numbers_done}
use Rattle.groups.proofs.print.node_line.Goals as goal

pub loop-group-init : goal.loop-group-init
loop-group-init c = numbers_begun _

pub loop-group-preserved : goal.loop-group-preserved
loop-group-preserved c = numbers_turn _ c.loop-group.invariant c.loop-group-test.true c.next_number-in-loop-group.ensures

pub returns : goal.returns
returns c =
    let a = c.args in
    let first : 3 * a.i + 0 ≡ 3 * a.i = omega arith in
    let groups = numbers_done a.groups.now c.loop-group.invariant c.loop-group-test.false in
    line_text a.i a.production _ _ _ a.groups.now (added c.add_decimal.ensures) c.next_number.ensures
    (same_text (ap (λ (k : ℕ). blank ∷ decimals (get_or a.nodes.now k 0)) first) c.next_number-2.ensures) c.next_number-3.ensures
    c.next_number-4.ensures groups (added c.add.ensures)
