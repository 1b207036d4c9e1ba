-- Refusal 6: the left kind and the children of an entry.
use mathlib.Core.Path.{◌≡◌, sym, ◌∙◌}
use mathlib.Core.Logic.{inl, inr}
use mathlib.Core.List.{List}
use Prim.Native.Nat.{ℕ, ◌+◌, ◌≤◌, ◌<◌}
use native.Mathlib.Omega.{arith}
use borrow.Author.Count.{below_more}
use Rattle.chains.specs.Limits.{max_kids}
use Rattle.book.specs.Format.{left_at, arity_at}
use Rattle.book.specs.Reading.{kid_at}
use Rattle.bookcheck.specs.Refusals.{BadKids}
use Rattle.bookcheck.specs.Search.{TrailerTold, Stands, alone}
use Rattle.bookcheck.proofs.Entry.{kids_long, kid_is}

-- a kind that may be a child
abbrev Apt : ℕ → ℕ → ℕ → Type 0
Apt n first k = (k < n) × (k ≡ first → ⊥)

-- the left kind and the first j children are in order
pub record Kin (b : List ℕ) (at n first j : ℕ) : Type 0 where
  pub left_in : left_at b at < n
  pub few : arity_at b at ≤ max_kids
  pub within : j ≤ arity_at b at
  pub apt : (i : ℕ) → i < j → Apt n first (kid_at b at i)

module _ {b : List ℕ} {at n first : ℕ} (s : Stands b at) (t : TrailerTold b n first) where
  pub alien_left : n ≤ left_at b at → BadKids (alone b at) 0
  alien_left h = inl (omega (arith, t.kinds_told))

  pub many_kids : max_kids < arity_at b at → BadKids (alone b at) 0
  many_kids h = inr (inl (omega (arith, kids_long s)))

  pub alien_kid : (j : ℕ) → j < arity_at b at → n ≤ kid_at b at j → BadKids (alone b at) 0
  alien_kid j l h = inr (inr (j, omega (arith, kids_long s), inl (omega (arith, kid_is s j l, t.kinds_told))))

  pub start_kid : (j : ℕ) → j < arity_at b at → kid_at b at j ≡ first → BadKids (alone b at) 0
  start_kid j l h = inr (inr (j, omega (arith, kids_long s), inr (sym (kid_is s j l) ∙ h ∙ t.start_told)))

  pub kin_begins : left_at b at < n → arity_at b at ≤ max_kids → Kin b at n first 0
  kin_begins h l = record { left_in = h; few = l; within = omega arith; apt = λ i h. absurd (omega arith) }

  pub kin_grows : {j : ℕ} → Kin b at n first j → j < arity_at b at → kid_at b at j < n → (kid_at b at j ≡ first → ⊥) → Kin b at n first (j + 1)
  kin_grows {j} k l h h' = record {
    left_in = k.left_in;
    few = k.few;
    within = omega arith;
    apt = below_more (λ i. Apt n first (kid_at b at i)) j k.apt (h, h');
  }

  pub kin_fair : {j : ℕ} → Kin b at n first j → arity_at b at ≤ j → BadKids (alone b at) 0 → ⊥
  kin_fair k l (inl h) = omega (arith, t.kinds_told)
  kin_fair k l (inr (inl h)) = omega (arith, kids_long s)
  kin_fair k l (inr (inr (i, h, inl u))) =
      let v : i < arity_at b at = omega (arith, kids_long s) in
      omega (arith, (k.apt i (omega arith)).0, kid_is s i v, t.kinds_told)
  kin_fair k l (inr (inr (i, h, inr u))) =
      let v : i < arity_at b at = omega (arith, kids_long s) in
      (k.apt i (omega arith)).1 (kid_is s i v ∙ u ∙ sym t.start_told)
