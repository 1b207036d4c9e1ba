-- A search from 0 up: what a turn adds, that it finds what is there, and that what it finds first is one.
use mathlib.Core.Path.{◌≡◌}
use mathlib.Core.Logic.{◌⊎◌, inl, inr}
use Prim.Native.Nat.{ℕ, zero, suc, ◌+◌, ◌≤◌}
use native.Mathlib.Omega.{arith}
use native.Mathlib.Numerals.{add-one}
use borrow.Author.Count.{below_more}
use Rattle.lists.specs.Sought.{Free, Least}
use Rattle.lists.proofs.Order.{by_order}

module _ (P : ℕ → Type 0) where
  pub free_none : Free P 0
  free_none i h p = omega arith

  -- a turn that does not find: nothing below i, and not i
  pub free_more : (i : ℕ) → Free P i → (P i → ⊥) → Free P (i + 1)
  free_more i f n = below_more _ _ f n

  pub free_fewer : (i j : ℕ) → i ≤ j → Free P j → Free P i
  free_fewer i j h f k l p = f k (omega arith) p

  -- where something below n has it, not nothing does
  pub least_not_free : (n i : ℕ) → Least P n i → Free P n → ⊥
  least_not_free n i l f = f i l.below l.has

  -- THEOREM: of what has P there is at most one first
  pub least_once : (n m i j : ℕ) → Least P n i → Least P m j → i ≡ j
  least_once n m i j a b = by_order (i ≡ j) i j (λ e. e) (λ h. absurd (b.first i h a.has)) (λ h. absurd (a.first j h b.has))

  -- THEOREM: what can be tested can be sought
  pub seek : ((i : ℕ) → Dec (P i)) → (n : ℕ) → ((i : ℕ) × Least P n i) ⊎ Free P n
  seek test zero = inr free_none
  seek test (suc n) = go (seek test n) (test n)
    where
      go : ((i : ℕ) × Least P n i) ⊎ Free P n → Dec (P n) → ((i : ℕ) × Least P (suc n) i) ⊎ Free P (suc n)
      go (inl (i, l)) d = inl (i, record { below = omega (arith, l.below); has = l.has; first = l.first })
      go (inr f) (yes p) = inl (n, record { below = omega arith; has = p; first = f })
      go (inr f) (no q) = inr (rw add-one at (free_more n f q))

-- what has P has Q, and what has Q has P: they have one first
pub least_map : {P Q : ℕ → Type 0} {n i : ℕ} → ((j : ℕ) → P j → Q j) → ((j : ℕ) → Q j → P j) → Least P n i → Least Q n i
least_map {i = i} f g l = record { below = l.below; has = f i l.has; first = λ j h q. l.first j h (g j q) }
