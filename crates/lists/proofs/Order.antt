-- Of two numbers one is less, or they are equal.
use mathlib.Core.Path.{◌≡◌, refl, ap}
use mathlib.Core.Logic.{◌⊎◌, inl, inr}
use Prim.Native.Nat.{ℕ, zero, suc, ◌<◌}
use native.Mathlib.Omega.{arith}

pub data Order (a b : ℕ) : Type 0 where
  less : a < b → Order a b
  equal : a ≡ b → Order a b
  more : b < a → Order a b

raise : {a b : ℕ} → Order a b → Order (suc a) (suc b)
raise (less h) = less (omega arith)
raise (equal e) = equal (ap suc e)
raise (more h) = more (omega arith)

pub order : (a b : ℕ) → Order a b
order zero zero = equal refl
order zero (suc b) = less (omega arith)
order (suc a) zero = more (omega arith)
order (suc a) (suc b) = raise (order a b)

-- what holds in each of the three cases holds
pub by_order : (P : Type 0) (a b : ℕ) → (a ≡ b → P) → (a < b → P) → (b < a → P) → P
by_order P a b f g h = go (order a b)
  where
    go : Order a b → P
    go (equal e) = f e
    go (less l) = g l
    go (more l) = h l

pub apart : (a b : ℕ) → (a ≡ b → ⊥) → (a < b) ⊎ (b < a)
apart a b n = by_order ((a < b) ⊎ (b < a)) a b (λ e. absurd (n e)) inl inr
