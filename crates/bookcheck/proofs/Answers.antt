-- How a test comes to tell, and a search to find.
use mathlib.Core.Path.{◌≡◌}
use mathlib.Core.Bool.{Bool, true, false}
use Prim.Native.Nat.{ℕ, ◌+◌, ◌≤◌, ◌<◌}
use native.Mathlib.Omega.{arith}
use lib.Dec.{ltb, leb, eqb}
use borrow.Author.Tests.{ltb-true, ltb-false, leb-true, leb-false, eqb-true, eqb-false}
use borrow.Author.Count.{below_more}
use Rattle.lists.specs.Sought.{Free}
use Rattle.bookcheck.specs.Search.{Tells, Finds}

module _ {P : Type 0} where
  pub tells_yes : P → Tells P true
  tells_yes h = record { holds = λ e. h; fails = λ e. absurd (let z : ◌≡◌ {A = Bool} true false = e in differ z) }
    where
      differ : true ≡ false → ⊥
      differ e = let z : ◌≡◌ {A = ℕ} 0 1 = cc in omega arith

  pub tells_no : (P → ⊥) → Tells P false
  tells_no h = record { holds = λ e. absurd (differ e); fails = λ e. h }
    where
      differ : false ≡ true → ⊥
      differ e = let z : ◌≡◌ {A = ℕ} 0 1 = cc in omega arith

  pub tells_lt : (a b : ℕ) → (a < b → P) → (b ≤ a → P → ⊥) → Tells P (ltb a b)
  tells_lt a b y n = record { holds = λ e. y (ltb-true a b e); fails = λ e. n (ltb-false a b e) }

  pub tells_le : (a b : ℕ) → (a ≤ b → P) → (b < a → P → ⊥) → Tells P (leb a b)
  tells_le a b y n = record { holds = λ e. y (leb-true a b e); fails = λ e. n (leb-false a b e) }

  pub tells_eq : (a b : ℕ) → (a ≡ b → P) → ((a ≡ b → ⊥) → P → ⊥) → Tells P (eqb a b)
  tells_eq a b y n = record { holds = λ e. y (eqb-true a b e); fails = λ e. n (eqb-false a b e) }

-- a search that has passed the places before k
pub record Seeking (P : ℕ → Type 0) (n k : ℕ) : Type 0 where
  pub within : k ≤ n
  pub passed : Free P k

module _ {P : ℕ → Type 0} where
  pub seek_begins : {n : ℕ} → Seeking P n 0
  seek_begins = record { within = omega arith; passed = λ i h. absurd (omega arith) }

  pub seek_on : {n k : ℕ} {r : Bool} → Seeking P n k → k < n → Tells (P k) r → r ≡ false → Seeking P n (k + 1)
  seek_on {n} {k} s l t e = record { within = omega arith; passed = below_more (λ i. P i → ⊥) k s.passed (t.fails e) }

  pub seek_found : {n k : ℕ} {r : Bool} → Seeking P n k → k < n → Tells (P k) r → r ≡ true → Finds P n k
  seek_found s l t e = record { within = omega arith; has = λ h. t.holds e; passed = s.passed }

  pub seek_ends : {n k : ℕ} → Seeking P n k → n ≤ k → Finds P n n
  seek_ends s l = record { within = omega arith; has = λ h. absurd (omega arith); passed = λ i h. s.passed i (omega arith) }
