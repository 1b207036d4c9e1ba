-- The sum of the children's counts. Assumes nothing.
use mathlib.Core.Path.{◌≡◌, sym, ap}
use Prim.Native.Nat.{suc}
use native.Mathlib.Omega.{arith}
use lib.ListN.{get_or}
use Rattle.book.specs.Format.{arity_at}
use Rattle.book.specs.Reading.{kid_at}
use Rattle.tables.proofs.Sweeping.{total_none, total_more}
use Rattle.tables.proofs.UpwardSweep.{kid_counted, up_watched}
use Rattle.tables.proofs.upward.UpwardsPass.watched.Goals as goal

pub loop-i-init : goal.loop-i-init
loop-i-init c = (ap suc (sym (total_none _ _)), omega arith)

pub bounds-counts-kid : goal.bounds-counts-kid
bounds-counts-kid c =
    let (w, l, h) = c.requires in
    rw c.kid.ensures (kid_counted w.leans c.args.p l (w.leans.each c.args.p l) c.args.counts.now h c.loop-i.i (omega arith))

pub loop-i-preserved : goal.loop-i-preserved
loop-i-preserved c =
    let b = c.args.self.now.book.now in
    let at = get_or c.args.self.now.places.now c.args.p 0 in
    let e : get_or c.args.counts.now c.kid.result 0 ≡ get_or c.args.counts.now (kid_at b at c.loop-i.i) 0 = rw c.kid.ensures in
    (omega (arith, total_more c.args.counts.now (kid_at b at) c.loop-i.i), omega (arith, c.type_inv.counts c.kid.result))

pub returns : goal.returns
returns c =
    let (w, l, h) = c.requires in
    let e : c.loop-i.i ≡ arity_at c.args.self.now.book.now (get_or c.args.self.now.places.now c.args.p 0) = omega arith in
    up_watched w.leans c.args.p l (w.leans.each c.args.p l) c.args.counts.now (rw e at c.loop-i.invariant.0)
