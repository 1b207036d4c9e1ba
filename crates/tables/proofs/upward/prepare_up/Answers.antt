-- The children in turn. Assumes nothing.
use Prim.Native.Nat.{suc}
use native.Mathlib.Omega.{arith}
use Rattle.tables.proofs.Opening.{opening_more}
use Rattle.tables.proofs.upward.prepare_up.Goals as goal

pub loop-j-init : goal.loop-j-init
loop-j-init c = c.looking_at-v.ensures _ _ _

pub loop-j-preserved : goal.loop-j-preserved
loop-j-preserved c = opening_more c.loop-j.invariant (omega (arith, c.requires.0)) (omega arith) (c.requires.1 (suc c.loop-j.j) (omega arith)) c.open.ensures
