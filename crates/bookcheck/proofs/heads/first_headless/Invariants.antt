use Prim.Native.Nat.{◌-◌}
use Rattle.bookcheck.specs.Refusals.{Headless}
use Rattle.book.specs.Format.{grammar}
use Rattle.bookcheck.proofs.Answers.{Seeking}
use Rattle.bookcheck.proofs.heads.first_headless.Given as goal

abbrev pub invariant-loop-k : goal.invariant-loop-k
invariant-loop-k l = Seeking (Headless (grammar l.book)) l.n l.k

abbrev pub decreases-loop-k : goal.decreases-loop-k
decreases-loop-k l = l.n - l.k
