use Prim.Native.Nat.{◌-◌}
use Rattle.bookcheck.proofs.Tying.{TiedUp}
use Rattle.bookcheck.proofs.ties.bad_ties.Given as goal

abbrev pub invariant-loop-i : goal.invariant-loop-i
invariant-loop-i l = TiedUp l.book l.at l.i

abbrev pub decreases-loop-i : goal.decreases-loop-i
decreases-loop-i l = l.d - l.i
