-- All slots in turn. Assumes nothing.
use mathlib.Core.Path.{◌≡◌, refl}
use Prim.Native.Nat.{suc, ◌+◌}
use native.Mathlib.Omega.{arith}
use Rattle.book.specs.Format.{arity_at}
use Rattle.tables.specs.Downward.{slot_down}
use Rattle.tables.proofs.Opening.{opening_more}
use Rattle.tables.proofs.DownwardVisit.{slot_within, given_placed}
use Rattle.tables.proofs.downward.Downwards.prepare.Goals as goal

pub loop-j-init : goal.loop-j-init
loop-j-init c = c.looking_at-v.ensures _ _ _

pub loop-j-preserved : goal.loop-j-preserved
loop-j-preserved c =
    let (few, low, placed) = c.requires in
    let (s, f) = placed _ (slot_within c.args.t c.loop-j.j _ low (omega arith)) in
    opening_more c.loop-j.invariant (omega arith) refl (given_placed (slot_down c.args.t c.loop-j.j) f s) (rw c.slot_down.ensures at c.open.ensures)

pub returns-2 : goal.returns-2
returns-2 c =
    let (few, low, placed) = c.requires in
    let (s, f) = placed _ (slot_within c.args.t c.loop-j.j _ low (omega arith)) in
    let e : c.loop-j.j + 1 ≡ suc (arity_at c.args.self.now.book.now c.args.at) = omega arith in
    rw (← e) (opening_more c.loop-j.invariant (omega arith) refl (given_placed (slot_down c.args.t c.loop-j.j) f s) (rw c.slot_down.ensures at c.open.ensures))
