-- What the walk gives to the occurrences of one production instance is numbered by the rule: each takes the number of an earlier one with the same
-- label, and the next unused number where no earlier one has it.
use mathlib.Core.Path.{◌≡◌, refl, sym, ap, ◌∙◌}
use mathlib.Core.Logic.{inl, inr}
use mathlib.Core.Bool.{Bool, true, false}
use mathlib.Core.List.Memᴰ
use mathlib.Core.List.{List, [], ◌∷◌, ◌++◌, map, Memᴰ, head-eq_of_cons-eq, tail-eq_of_cons-eq}
use Prim.Native.Nat.{ℕ, suc}
use borrow.Author.Tests.{eqb-true, eqb-false}
use lib.Dec.{eqb}
use Rattle.lists.specs.Pick.{pick}
use Rattle.chains.specs.Numbering.{Numbers}
use Rattle.numbering.specs.Walk.{Held, holder, holds, numbered, unused, held}

-- ── who holds a label ──
-- one of those held has the label x, and what it has is told by `holder`; or none has it
pub data Holder (x : ℕ) (hs : List Held) (n : ℕ) : Type 0 where
  one : (h : Held) → Memᴰ h hs → h.0 ≡ x → holder x hs n ≡ h.1 → holds x hs ≡ true → Holder x hs n
  none : ((h : Held) → Memᴰ h hs → h.0 ≡ x → ⊥) → holder x hs n ≡ n → holds x hs ≡ false → Holder x hs n

pub who_holds : (x : ℕ) (hs : List Held) (n : ℕ) → Holder x hs n
who_holds x [] n = none (λ h m. absurd (Memᴰ.not-nil m)) refl refl
who_holds x (h ∷ hs) n = go (eqb h.0 x) refl (who_holds x hs n)
  where
    go : (t : Bool) → eqb h.0 x ≡ t → Holder x hs n → Holder x (h ∷ hs) n
    go true e r = one h (Memᴰ.head refl) (eqb-true h.0 x e) (rw e) (rw e)
    go false e (one g m el en ey) = one g (Memᴰ.tail m) el (rw e en) (rw e ey)
    go false e (none no_one en ey) =
        none (λ g m el. elim (Memᴰ.cases_cons m) [ inl eg ↦ eqb-false h.0 x e (sym (ap (λ (t : Held). t.0) eg) ∙ el) | inr m' ↦ no_one g m' el ]) (rw e en) (rw e ey)

-- ── a run ──
-- hs holds the labels and numbers of the occurrences os, and nothing else
pub record Keeps {O : Type 0} (lab num : O → ℕ) (os : List O) (hs : List Held) : Type 0 where
  pub all : (o : O) → Memᴰ o os → Memᴰ (lab o, num o) hs
  pub only : (h : Held) → Memᴰ h hs → (o : O) × Memᴰ o os × (h ≡ (lab o, num o))

module _ {O : Type 0} (lab num : O → ℕ) where
  keeps_more : (o : O) (os : List O) (hs : List Held) (n : ℕ) → num o ≡ n → Keeps lab num os hs → Keeps lab num (o ∷ os) (hs ++ (lab o, n) ∷ [])
  keeps_more o os hs n e k = record {
    all = λ q m. elim (Memᴰ.cases_cons m) [
      | inl eq ↦ Memᴰ.append_right hs (Memᴰ.head (rw (eq, e)))
      | inr m' ↦ Memᴰ.append_left ((lab o, n) ∷ []) (k.all q m')
    ];
    only = λ h m. elim (Memᴰ.append_cases hs m) [
      | inl m' ↦ (let (q, mq, eq) = k.only h m' in (q, Memᴰ.tail mq, eq))
      | inr m' ↦ (o, Memᴰ.head refl, last h m')
    ];
  }
    where
      last : (h : Held) → Memᴰ h ((lab o, n) ∷ []) → h ≡ (lab o, num o)
      last h m = elim (Memᴰ.cases_cons m) [ inl eh ↦ rw e eh | inr z ↦ absurd (Memᴰ.not-nil z) ]

  -- THEOREM: what `numbered` gives is numbered by the rule
  pub numbered_rule : (os earlier : List O) (hs : List Held) (n : ℕ) → Keeps lab num earlier hs → map num os ≡ numbered hs n (map lab os)
      → Numbers (λ o o'. lab o ≡ lab o') num earlier n os (unused hs n (map lab os))
  unfolding numbered unused
  numbered_rule [] earlier hs n k e = refl
  numbered_rule (o ∷ os) earlier hs n k e =
      go (who_holds (lab o) hs n) (numbered_rule os (o ∷ earlier) (hs ++ (lab o, holder (lab o) hs n) ∷ []))
    where
      first : num o ≡ holder (lab o) hs n
      first = head-eq_of_cons-eq e

      go : Holder (lab o) hs n
          → ((n' : ℕ) → Keeps lab num (o ∷ earlier) (hs ++ (lab o, holder (lab o) hs n) ∷ [])
          → map num os ≡ numbered (hs ++ (lab o, holder (lab o) hs n) ∷ []) n' (map lab os)
          → Numbers (λ o o'. lab o ≡ lab o') num (o ∷ earlier) n' os (unused (hs ++ (lab o, holder (lab o) hs n) ∷ []) n' (map lab os)))
          → Numbers (λ o o'. lab o ≡ lab o') num earlier n (o ∷ os) (unused (hs ++ (lab o, holder (lab o) hs n) ∷ []) (pick (holds (lab o) hs) n (suc n)) (map lab os))
      go (one h m el en ey) later =
          let (q, mq, eh) = k.only h m in
          let rest = tail-eq_of_cons-eq e in
          inl (q, mq, sym (ap (λ (t : Held). t.0) eh) ∙ el, first ∙ (en ∙ ap (λ (t : Held). t.1) eh), rw ey (later n (keeps_more o earlier hs (holder (lab o) hs n) first k) (rw ey at rest)))
      go (none no_one en ey) later =
          let rest = tail-eq_of_cons-eq e in
          inr (λ q mq eq. no_one (lab q, num q) (k.all q mq) eq, first ∙ en, rw ey (later (suc n) (keeps_more o earlier hs (holder (lab o) hs n) first k) (rw ey at rest)))

  -- labels with the numbers they have, of the occurrences os
  pub held_map : (os : List O) → held (map lab os) (map num os) ≡ map (λ o. (lab o, num o)) os
  held_map [] = refl
  held_map (o ∷ os) = ap (λ (t : List Held). (lab o, num o) ∷ t) (held_map os)

  pub keeps_map : (os : List O) → Keeps lab num os (map (λ o. (lab o, num o)) os)
  keeps_map [] = record { all = λ o m. absurd (Memᴰ.not-nil m); only = λ h m. absurd (Memᴰ.not-nil m) }
  keeps_map (o ∷ os) =
      let k = keeps_map os in
      record {
        all = λ q m. elim (Memᴰ.cases_cons m) [ inl e ↦ Memᴰ.head (ap (λ t. (lab t, num t)) e) | inr m' ↦ Memᴰ.tail (k.all q m') ];
        only = λ h m. elim (Memᴰ.cases_cons m) [
          | inl e ↦ (o, Memᴰ.head refl, e)
          | inr m' ↦ (let (q, mq, eq) = k.only h m' in (q, Memᴰ.tail mq, eq))
        ];
      }
