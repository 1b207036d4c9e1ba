use Prim.Native.Nat.{◌-◌}
use Rattle.bookcheck.proofs.Passing.{Passing}
use Rattle.bookcheck.proofs.walk.first_bad.Given as goal

abbrev pub invariant-loop-p : goal.invariant-loop-p
invariant-loop-p l = Passing l.book l.row l.m l.at l.p

abbrev pub decreases-loop-p : goal.decreases-loop-p
decreases-loop-p l = l.m - l.p
