-- A visit of the downward pass for one child. Assumes nothing.
use Prim.Native.Nat.{◌+◌, ◌≤◌}
use native.Mathlib.Numerals.{add-one}
use native.Mathlib.Omega.{arith}
use Rattle.book.specs.Format.{arity_at, entry}
use Rattle.bookcheck.proofs.Accepted.{arity_read}
use Rattle.tables.proofs.Gathering.{fine_own}
use Rattle.tables.proofs.StateBase.{few_kids}
use Rattle.tables.proofs.UpwardVisit.{slot_placed}
use Rattle.tables.proofs.DownwardVisit.{down_prepared, down_gathers}
use Rattle.tables.proofs.DownwardSweep.{down_served}
use Rattle.tables.proofs.downward.Downwards.visit.Goals as goal

pub prepare-requires : goal.prepare-requires
prepare-requires c =
    let ((o, s), l, h, f) = c.requires in
    let low : c.args.j + 1 ≤ arity_at c.args.self.now.book.now (entry c.args.self.now.book.now c.args.p) = omega (arith, arity_read o.book c.args.p l) in
    rw (o.each c.args.p l) (few_kids o.book c.args.p l, low, λ i k. (slot_placed o.book c.args.p l s i k, slot_placed o.book c.args.p l f i k))

pub make-requires : goal.make-requires
make-requires c =
    let ((o, s), l, h, f) = c.requires in
    rw (o.each c.args.p l) (down_prepared o.book c.args.p l (fine_own f) s c.args.j h (rw (o.each c.args.p l, add-one c.args.j) at c.prepare.ensures))

pub returns : goal.returns
returns c =
    let ((o, s), l, h, f) = c.requires in
    let v = rw (o.each c.args.p l, add-one c.args.j) at c.prepare.ensures in
    down_served o s c.args.p c.args.j l h c.make.result f (down_gathers o.book c.args.p l (fine_own f) s c.args.j h v (rw (o.each c.args.p l) at c.make.ensures))
