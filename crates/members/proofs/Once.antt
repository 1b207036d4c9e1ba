-- What each call answers and leaves is one.
use mathlib.Core.Path.{◌≡◌, refl, sym, ap, ◌∙◌}
use mathlib.Core.Bool.{Bool, true, false}
use mathlib.Core.List.{List}
use Prim.Native.Nat.{ℕ, ◌+◌, ◌*◌, ◌≤◌, ◌<◌}
use native.Mathlib.Decide.{dec_lt}
use native.Mathlib.Omega.{arith}
use lib.ListN.{length, get_or}
use Rattle.std.specs.Prelude.{Option, Some, None, Result, Ok, Err}
use Rattle.lists.proofs.Sought.{least_once, least_not_free}
use Rattle.chains.specs.Limits.{max_members}
use Rattle.members.specs.Sets.{Placed, Search, Sought, Tried, Put}
use Rattle.members.specs.declared.Full.{Full}

-- ── the search ──
search_once : (s : List ℕ) (base n x : ℕ) (q r : Option ℕ) → Search s base n x q → Search s base n x r → q ≡ r
search_once s base n x (Some i) (Some j) a b = ap Some (least_once _ n n i j a b)
search_once s base n x (Some i) None a b = absurd (least_not_free _ n i a b)
search_once s base n x None (Some j) a b = absurd (least_not_free _ n j b a)
search_once s base n x None None a b = refl

-- THEOREM: two answers to a search are the same
pub place_of_once : (s : List ℕ) (base n x : ℕ) (q r : Option ℕ) → Sought s base n x q → Sought s base n x r → q ≡ r
place_of_once s base n x q r a b = go (dec_lt (length s) (base + n))
  where
    go : Dec (length s < base + n) → q ≡ r
    go (yes h) = a.missing h ∙ sym (b.missing h)
    go (no h) = let t : base + n ≤ length s = omega arith in search_once s base n x q r (a.there t) (b.there t)

-- ── putting one in ──
abbrev Same : (s₁ c₁ s₂ c₂ : List ℕ) (r₁ r₂ : Result Bool Full) → Type 0
Same s₁ c₁ s₂ c₂ r₁ r₂ = (r₁ ≡ r₂) × (s₁ ≡ s₂) × (c₁ ≡ c₂)

tried_once : (k x : ℕ) (s c s₁ c₁ s₂ c₂ : List ℕ) (r₁ r₂ : Result Bool Full) → Tried k x s c s₁ c₁ r₁ → Tried k x s c s₂ c₂ r₂ → Same s₁ c₁ s₂ c₂ r₁ r₂
tried_once k x s c s₁ c₁ s₂ c₂ (Ok false) (Ok false) a b = let (e, f, m) = a.case in let (e', f', m') = b.case in (refl, e ∙ sym e', f ∙ sym f')
tried_once k x s c s₁ c₁ s₂ c₂ (Ok false) (Ok true) a b = let (e, f, m) = a.case in absurd (b.case.new m)
tried_once k x s c s₁ c₁ s₂ c₂ (Ok false) (Err e₂) a b = let (e, f, m) = a.case in let (e', f', z, n) = b.case in absurd (n m)
tried_once k x s c s₁ c₁ s₂ c₂ (Ok true) (Ok false) a b = let (e, f, m) = b.case in absurd (a.case.new m)
tried_once k x s c s₁ c₁ s₂ c₂ (Ok true) (Ok true) a b = (refl, a.case.held ∙ sym b.case.held, a.case.counted ∙ sym b.case.counted)
tried_once k x s c s₁ c₁ s₂ c₂ (Ok true) (Err e₂) a b = let (e, f, z, n) = b.case in absurd (omega (arith, a.case.free))
tried_once k x s c s₁ c₁ s₂ c₂ (Err e₁) (Ok false) a b = let (e, f, m) = b.case in let (e', f', z, n) = a.case in absurd (n m)
tried_once k x s c s₁ c₁ s₂ c₂ (Err e₁) (Ok true) a b = let (e, f, z, n) = a.case in absurd (omega (arith, b.case.free))
tried_once k x s c s₁ c₁ s₂ c₂ (Err e₁) (Err e₂) a b = let (e, f, z, n) = a.case in let (e', f', z', n') = b.case in (refl, e ∙ sym e', f ∙ sym f')

is_placed : (s c : List ℕ) (k : ℕ) → Dec (Placed s c k)
is_placed s c k = go (dec_lt (length s) (k * max_members + max_members)) (dec_lt k (length c)) (dec_lt max_members (get_or c k 0))
  where
    go : Dec (length s < k * max_members + max_members) → Dec (k < length c) → Dec (max_members < get_or c k 0) → Dec (Placed s c k)
    go (yes a) b d = no (λ p. omega (arith, p.there))
    go (no a) (no b) d = no (λ p. b p.here)
    go (no a) (yes b) (yes d) = no (λ p. omega (arith, p.few))
    go (no a) (yes b) (no d) = yes (record { there = omega arith; here = b; few = omega arith })

-- THEOREM: two outcomes of putting a number in are the same, answer, sets and counts
pub put_once : (k x : ℕ) (s c s₁ c₁ s₂ c₂ : List ℕ) (r₁ r₂ : Result Bool Full) → Put k x s c s₁ c₁ r₁ → Put k x s c s₂ c₂ r₂ → (r₁ ≡ r₂) × (s₁ ≡ s₂) × (c₁ ≡ c₂)
put_once k x s c s₁ c₁ s₂ c₂ r₁ r₂ a b = go (is_placed s c k)
  where
    go : Dec (Placed s c k) → Same s₁ c₁ s₂ c₂ r₁ r₂
    go (yes p) = tried_once k x s c s₁ c₁ s₂ c₂ r₁ r₂ (a.there p) (b.there p)
    go (no n) = let (e, f, z) = a.missing n in let (e', f', z') = b.missing n in (z ∙ sym z', e ∙ sym e', f ∙ sym f')
