-- What each call leaves is one.
use mathlib.Core.Path.{◌≡◌, refl, sym, ◌∙◌}
use mathlib.Core.Bool.{Bool, true, false}
use mathlib.Core.List.{List}
use Prim.Native.Nat.{ℕ, ◌+◌, ◌≤◌, ◌<◌}
use native.Mathlib.Decide.{dec_lt}
use native.Mathlib.Omega.{arith}
use lib.ListN.{length}
use Rattle.lists.specs.Inserted.{one}
use Rattle.slices.specs.Slices.{Taken, Relabelled, Overlaid}

one_once : (n : ℕ) (r r' : Bool) → n + one r ≡ n + one r' → r ≡ r'
one_once n true true e = refl
one_once n true false e = absurd (omega arith)
one_once n false true e = absurd (omega arith)
one_once n false false e = refl

-- THEOREM: two outcomes of an insertion are the same, answer and slice
pub insert_once : (base n x : ℕ) (s s₁ s₂ : List ℕ) (r₁ r₂ : Bool) → Taken base n x s s₁ r₁ → Taken base n x s s₂ r₂ → (r₁ ≡ r₂) × (s₁ ≡ s₂)
insert_once base n x s s₁ s₂ r₁ r₂ a b = go (dec_lt (base + n) (length s))
  where
    go : Dec (base + n < length s) → (r₁ ≡ r₂) × (s₁ ≡ s₂)
    go (yes h) = (one_once n r₁ r₂ (sym (a.room h).more ∙ (b.room h).more), (a.room h).held ∙ sym (b.room h).held)
    go (no h) =
        let (e, z) = a.none (omega arith) in
        let (e', z') = b.none (omega arith) in
        (z ∙ sym z', e ∙ sym e')

pub relabel_once : (a b : ℕ) (s s₁ s₂ : List ℕ) → Relabelled a b s s₁ → Relabelled a b s s₂ → s₁ ≡ s₂
relabel_once a b s s₁ s₂ x y = x ∙ sym y

pub lay_once : (from : ℕ) (s t t₁ t₂ : List ℕ) → Overlaid from s t t₁ → Overlaid from s t t₂ → t₁ ≡ t₂
lay_once from s t t₁ t₂ a b = go (dec_lt (length t) (from + length s))
  where
    go : Dec (length t < from + length s) → t₁ ≡ t₂
    go (yes h) = a.none h ∙ sym (b.none h)
    go (no h) = let r : from + length s ≤ length t = omega arith in a.room r ∙ sym (b.room r)
