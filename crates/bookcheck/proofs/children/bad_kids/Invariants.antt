use Prim.Native.Nat.{◌-◌}
use Rattle.bookcheck.proofs.Kin.{Kin}
use Rattle.bookcheck.proofs.children.bad_kids.Given as goal

abbrev pub invariant-loop-j : goal.invariant-loop-j
invariant-loop-j l = Kin l.book l.at l.n l.first l.j

abbrev pub decreases-loop-j : goal.decreases-loop-j
decreases-loop-j l = l.k - l.j
