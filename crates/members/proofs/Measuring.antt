-- Slices measured against the kinds: one of them is too short, or all have room, and not both.
use mathlib.Core.Path.{◌≡◌}
use mathlib.Core.Logic.{inl, inr}
use mathlib.Core.Bool.{Bool, true, false}
use Prim.Native.Nat.{ℕ}
use native.Mathlib.Omega.{arith}
use Rattle.members.specs.Room.{TooShort, Roomy, Measured}

apart : {n a b c d : ℕ} → TooShort n a b c d → Roomy n a b c d → ⊥
apart (inl h) r = omega (arith, r.plausible)
apart (inr (inl h)) r = omega (arith, r.plausible_counts)
apart (inr (inr (inl h))) r = omega (arith, r.feasible)
apart (inr (inr (inr h))) r = omega (arith, r.feasible_counts)

-- THEOREM: two answers are the same
pub too_short_once : (n a b c d : ℕ) (r s : Bool) → Measured n a b c d r → Measured n a b c d s → r ≡ s
too_short_once n a b c d true true x y = cc
too_short_once n a b c d true false x y = absurd (apart (x.short cc) (y.roomy cc))
too_short_once n a b c d false true x y = absurd (apart (y.short cc) (x.roomy cc))
too_short_once n a b c d false false x y = cc
