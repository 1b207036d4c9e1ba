-- The code of a slot. Assumes nothing.
use mathlib.Core.Path.{◌≡◌}
use Prim.Native.Nat.{◌+◌, ◌-◌, ◌*◌}
use native.Mathlib.Omega.{arith}
use Rattle.chains.specs.Limits.{max_settings}
use Rattle.tables.specs.State.{Whole}
use Rattle.tables.proofs.StateNumbers.{view_turn, view_done, slot_long, slot_low}
use Rattle.tables.proofs.labels.Labels.view.Goals as goal

pub of-requires : goal.of-requires
of-requires c =
    let k : c.args.slot * max_settings + c.args.width - c.args.slot * max_settings ≡ c.args.width = omega arith in
    let n = slot_long c.self.invariant c.requires.0 c.requires.1 in
    let l = rw k at c.loop-x-test.true in
    let w : Whole c.self.inside.of c.args.slot c.args.width = rw c.self.view_is c.requires.2 in
    rw k (slot_low c.self.invariant c.requires.0 c.requires.1 w c.loop-x.x (omega arith), omega (arith, c.loop-x.invariant.few))

pub loop-x-preserved : goal.loop-x-preserved
loop-x-preserved c =
    let k : c.args.slot * max_settings + c.args.width - c.args.slot * max_settings ≡ c.args.width = omega arith in
    let n = slot_long c.self.invariant c.requires.0 c.requires.1 in
    let l = rw k at c.loop-x-test.true in
    view_turn c.loop-x.invariant c.loop-x-test.true (omega arith) c.of.ensures

pub returns : goal.returns
returns c =
    let k : c.args.slot * max_settings + c.args.width - c.args.slot * max_settings ≡ c.args.width = omega arith in
    rw (← c.self.view_is) (rw k at (view_done c.loop-x.invariant c.loop-x-test.false))
