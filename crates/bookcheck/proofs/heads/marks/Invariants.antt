use Prim.Native.Nat.{◌-◌}
use Rattle.bookcheck.proofs.Marking.{Marking}
use Rattle.bookcheck.proofs.heads.marks.Given as goal

abbrev pub invariant-loop-p : goal.invariant-loop-p
invariant-loop-p l = Marking l.book l.m l.seen l.at l.p

abbrev pub decreases-loop-p : goal.decreases-loop-p
decreases-loop-p l = l.m - l.p
