-- Refusal 7: the pairs of an entry.
use mathlib.Core.Path.{◌≡◌, refl, ap, sym, ◌∙◌, subst₂}
use mathlib.Core.Logic.{◌⊎◌, inl, inr, ⊎_elim}
use mathlib.Core.Bool.{Bool, true, false}
use mathlib.Core.List.{List, [], ◌∷◌, Memᴰ}
use Prim.Native.Nat.{ℕ, zero, suc, ◌+◌, ◌/◌, ◌%◌, ◌^◌, ◌≤◌, ◌<◌}
use native.Mathlib.Decide.{dec_lt, ℕ_discrete}
use native.Mathlib.Numerals.{add-one}
use native.Mathlib.Omega.{arith}
use lib.Dec.{ltb, eqb}
use lib.ListN.{length, get_or}
use borrow.Author.Count.{below_more}
use borrow.Author.Tests.{eq-eqb, ne_eqb, eqb-true, eqb-false}
use Rattle.lists.specs.Refusals.{Sooner}
use Rattle.chains.specs.Grammar.{Tie, slots, width, Exists, Target, Rises, order}
use Rattle.book.specs.Format.{left_at, arity_at, pairs_at, bytes_at, ties_of, occ, grammar}
use Rattle.book.specs.Reading.{settings_of, mask_of, kind_in, to_at, from_at, pair_at}
use Rattle.bookcheck.specs.Refusals.{BadTies}
use Rattle.bookcheck.specs.Search.{Tells, Stands, alone, Fair, Climbs}
use Rattle.bookcheck.proofs.Answers.{tells_lt, tells_eq}
use Rattle.bookcheck.proofs.Decided.{exists_decided}
use Rattle.bookcheck.proofs.Laying.{settings_is, inherits_is}
use Rattle.bookcheck.proofs.Entry.{no_tie, kids_long, kind_in_is, ties_count, tie_is}

-- ── occurrences ──
module _ {b : List ℕ} {at : ℕ} (s : Stands b at) (o : ℕ) where
  pub no_slot : arity_at b at < o / 8 → Exists (alone b at) 0 (occ o) → ⊥
  no_slot h e = omega (arith, e.0, kids_long s)

  module _ {t k x : ℕ} (et : t ≡ o / 8) (ek : k ≡ kind_in b at t) (ex : x ≡ o % 8) (l : o / 8 < length (slots (alone b at) 0)) where
    kind_there : k ≡ get_or (slots (alone b at) 0) (o / 8) 0
    kind_there = ek ∙ ap (kind_in b at) et ∙ kind_in_is s (o / 8) l

    pub exists_tells : {a : ℕ} → a ≡ settings_of b k → Tells (Exists (alone b at) 0 (occ o)) (ltb x a)
    exists_tells {a} ea =
        let w : a ≡ width (alone b at) 0 (o / 8) = ea ∙ settings_is s.laid k ∙ ap (grammar b).settings kind_there in
        tells_lt x a (λ h. (l, omega arith)) (λ h e. omega (arith, e.1))

    module _ {bit : ℕ} (eb : bit ≡ mask_of b k / 2 ^ x % 2) where
      bit_there : eqb bit 1 ≡ (grammar b).inherits (get_or (slots (alone b at) 0) (o / 8) 0) (o % 8)
      bit_there = rw eb (inherits_is s.laid k x ∙ ap (λ i. (grammar b).inherits k i) ex ∙ ap (λ j. (grammar b).inherits j (o % 8)) kind_there)

      pub target_of_left : t ≡ 0 → Tells (Target (alone b at) 0 (occ o)) (eqb bit 0)
      target_of_left z = tells_eq bit 0 made missed
        where
          q : o / 8 ≡ 0
          q = omega arith

          same : eqb bit 1 ≡ (grammar b).inherits (left_at b at) (o % 8)
          same = bit_there ∙ ap (λ n. (grammar b).inherits (get_or (slots (alone b at) 0) n 0) (o % 8)) q

          made : bit ≡ 0 → Target (alone b at) 0 (occ o)
          made e = inl (q, sym same ∙ ne_eqb bit 1 (λ e'. omega arith))

          missed : (bit ≡ 0 → ⊥) → Target (alone b at) 0 (occ o) → ⊥
          missed n (inl (h, e)) = n (let i = eqb-false bit 1 (same ∙ e) in omega (arith, eb))
          missed n (inr (h, e)) = omega (arith, q)

      pub target_of_kid : (t ≡ 0 → ⊥) → Tells (Target (alone b at) 0 (occ o)) (eqb bit 1)
      target_of_kid z = tells_eq bit 1 made missed
        where
          q : 0 < o / 8
          q = go (ℕ_discrete (o / 8) 0)
            where
              go : Dec (o / 8 ≡ 0) → 0 < o / 8
              go (yes e) = absurd (z (et ∙ e))
              go (no e) = omega arith

          made : bit ≡ 1 → Target (alone b at) 0 (occ o)
          made e = inr (q, sym bit_there ∙ eq-eqb bit 1 e)

          missed : (bit ≡ 1 → ⊥) → Target (alone b at) 0 (occ o) → ⊥
          missed n (inl (h, e)) = omega (arith, q)
          missed n (inr (h, e)) = n (eqb-true bit 1 (bit_there ∙ e))

-- ── order: by slot and setting is by the byte ──
pub sooner_bytes : (a b c d : ℕ) → (a < c) ⊎ ((a ≡ c) × (b < d)) → Sooner (order (occ a, occ b)) (order (occ c, occ d))
sooner_bytes a b c d (inl h) = go (dec_lt (a / 8) (c / 8))
  where
    go : Dec (a / 8 < c / 8) → Sooner (order (occ a, occ b)) (order (occ c, occ d))
    go (yes l) = inl l
    go (no l) = inr (omega arith, inl (omega arith))
sooner_bytes a b c d (inr (e, h)) = go (dec_lt (b / 8) (d / 8))
  where
    go : Dec (b / 8 < d / 8) → Sooner (order (occ a, occ b)) (order (occ c, occ d))
    go (yes l) = inr (ap (λ n. n / 8) e, inr (ap (λ n. n % 8) e, inl l))
    go (no l) = inr (ap (λ n. n / 8) e, inr (ap (λ n. n % 8) e, inr (omega arith, inl (omega arith))))

pub bytes_sooner : (a b c d : ℕ) → Sooner (order (occ a, occ b)) (order (occ c, occ d)) → (a < c) ⊎ ((a ≡ c) × (b < d))
bytes_sooner a b c d (inl h) = inl (omega arith)
bytes_sooner a b c d (inr (e, inl h)) = inl (omega arith)
bytes_sooner a b c d (inr (e, inr (e', inl h))) = inr (omega arith, omega arith)
bytes_sooner a b c d (inr (e, inr (e', inr (f, inl h)))) = inr (omega arith, omega arith)
bytes_sooner a b c d (inr (e, inr (e', inr (f, inr never)))) = absurd never.1

-- ── lists of ties, by place ──
pub tie_member : (l : List Tie) (i : ℕ) → i < length l → Memᴰ (get_or l i no_tie) l
tie_member [] i h = absurd (omega arith)
tie_member (t ∷ l) zero h = mathlib.Core.List.Memᴰ.head refl
tie_member (t ∷ l) (suc i) h = mathlib.Core.List.Memᴰ.tail (tie_member l i (omega arith))

pub member_place : {t : Tie} {l : List Tie} → Memᴰ t l → (i : ℕ) × (i < length l) × (t ≡ get_or l i no_tie)
member_place (mathlib.Core.List.Memᴰ.head e) = (0, omega arith, e)
member_place (mathlib.Core.List.Memᴰ.tail m) = let (i, h, e) = member_place m in (suc i, omega arith, e)

pub rises_at : (l : List Tie) → Rises l → (i : ℕ) → suc i < length l → Sooner (order (get_or l i no_tie)) (order (get_or l (suc i) no_tie))
rises_at [] r i h = absurd (omega arith)
rises_at (t ∷ []) r i h = absurd (omega arith)
rises_at (t ∷ u ∷ l) r zero h = r.0
rises_at (t ∷ u ∷ l) r (suc i) h = rises_at (u ∷ l) r.1 i (omega arith)

pub rises_by : (l : List Tie) → ((i : ℕ) → suc i < length l → Sooner (order (get_or l i no_tie)) (order (get_or l (suc i) no_tie))) → Rises l
rises_by [] f = tt
rises_by (t ∷ []) f = tt
rises_by (t ∷ u ∷ l) f = (f 0 (omega arith), rises_by (u ∷ l) (λ i h. f (suc i) (omega arith)))

-- ── an entry's pairs ──
module _ (b : List ℕ) (at i : ℕ) where
  pub climb_last : pairs_at b at ≤ i + 1 → Climbs b at i
  climb_last h l = absurd (omega arith)

  module _ {o o' : ℕ} (eo : o ≡ to_at b at i) (eo' : o' ≡ to_at b at (i + 1)) (l : i + 1 < pairs_at b at) where
    step_of : Climbs b at i → (o < o') ⊎ ((o ≡ o') × (from_at b at i < from_at b at (i + 1)))
    step_of h = rw (eo, eo') (bytes_sooner (to_at b at i) (from_at b at i) (to_at b at (i + 1)) (from_at b at (i + 1)) (h l))

    of_step : (o < o') ⊎ ((o ≡ o') × (from_at b at i < from_at b at (i + 1))) → Climbs b at i
    of_step h _ = sooner_bytes (to_at b at i) (from_at b at i) (to_at b at (i + 1)) (from_at b at (i + 1)) (rw (eo, eo') at h)

    pub climb_other : (o ≡ o' → ⊥) → Tells (Climbs b at i) (ltb o o')
    climb_other n = tells_lt o o' (λ h. of_step (inl h)) (λ h s. ⊎_elim (λ k. omega arith) (λ k. n k.0) (step_of s))

    pub climb_equal : {f f' : ℕ} → o ≡ o' → f ≡ from_at b at i → f' ≡ from_at b at (i + 1) → Tells (Climbs b at i) (ltb f f')
    climb_equal {f} {f'} e ef ef' = tells_lt f f' (λ h. of_step (inr (e, omega arith))) (λ h s. ⊎_elim (λ k. omega arith) (λ k. omega (arith, k.1)) (step_of s))

-- a pair is fair by its three tests
module _ (b : List ℕ) (at i : ℕ) {o : ℕ} (eo : o ≡ to_at b at i) where
  pub unfair_to : {r : Bool} → Tells (Exists (alone b at) 0 (occ o)) r → r ≡ false → Fair b at i → ⊥
  unfair_to t e h = t.fails e (rw eo h.0)

  pub unfair_from : {f : ℕ} {r : Bool} → f ≡ from_at b at i → Tells (Exists (alone b at) 0 (occ f)) r → r ≡ false → Fair b at i → ⊥
  unfair_from ef t e h = t.fails e (rw ef h.1)

  pub fair_target : {f : ℕ} {r s u : Bool} → f ≡ from_at b at i → Tells (Exists (alone b at) 0 (occ o)) r → r ≡ true
      → Tells (Exists (alone b at) 0 (occ f)) s → s ≡ true → Tells (Target (alone b at) 0 (occ o)) u → Tells (Fair b at i) u
  fair_target ef t e t' e' g = record {
    holds = λ z. (rw (← eo) (t.holds e), rw (← ef) (t'.holds e'), rw (← eo) (g.holds z));
    fails = λ z h. g.fails z (rw eo h.2);
  }

-- the first i pairs are fair and climb
pub record TiedUp (b : List ℕ) (at i : ℕ) : Type 0 where
  pub within : i ≤ pairs_at b at
  pub fair : (q : ℕ) → q < i → Fair b at q
  pub climbs : (q : ℕ) → q < i → Climbs b at q

pub ties_begin : {b : List ℕ} {at : ℕ} → TiedUp b at 0
ties_begin = record { within = omega arith; fair = λ q h. absurd (omega arith); climbs = λ q h. absurd (omega arith) }

pub ties_go : {b : List ℕ} {at i : ℕ} → TiedUp b at i → i < pairs_at b at → Fair b at i → Climbs b at i → TiedUp b at (i + 1)
ties_go {b} {at} {i} t l f c = record {
  within = omega arith;
  fair = below_more (λ q. Fair b at q) i t.fair f;
  climbs = below_more (λ q. Climbs b at q) i t.climbs c;
}

module _ {b : List ℕ} {at : ℕ} (s : Stands b at) where
  -- a pair that is not fair fails in one of the three
  pub unfair : (i : ℕ) → i < pairs_at b at → (Fair b at i → ⊥) → BadTies (alone b at) 0
  unfair i l n =
      let m : Memᴰ (pair_at b at i) (ties_of (bytes_at b at)) = rw (tie_is s i l) (tie_member (ties_of (bytes_at b at)) i (omega (arith, ties_count s))) in
      inl (pair_at b at i, m, which (exists_decided (alone b at) 0 (pair_at b at i).0) (exists_decided (alone b at) 0 (pair_at b at i).1))
    where
      which : Dec (Exists (alone b at) 0 (pair_at b at i).0) → Dec (Exists (alone b at) 0 (pair_at b at i).1)
          → (Exists (alone b at) 0 (pair_at b at i).0 → ⊥) ⊎ (Exists (alone b at) 0 (pair_at b at i).1 → ⊥) ⊎ (Target (alone b at) 0 (pair_at b at i).0 → ⊥)
      which (no h) d = inl h
      which (yes h) (no k) = inr (inl k)
      which (yes h) (yes k) = inr (inr (λ t. n (h, k, t)))

  -- two pairs on end, as the list of ties has them
  on_end : (i : ℕ) → i + 1 < pairs_at b at → pair_at b at (i + 1) ≡ get_or (ties_of (bytes_at b at)) (suc i) no_tie
  on_end i l = tie_is s (i + 1) l ∙ ap (λ n. get_or (ties_of (bytes_at b at)) n no_tie) (add-one i)

  pub falling : (i : ℕ) → (Climbs b at i → ⊥) → BadTies (alone b at) 0
  falling i n = inr (λ r. n (λ l.
      subst₂ (λ t u. Sooner (order t) (order u)) (sym (tie_is s i (omega arith))) (sym (on_end i l))
      (rises_at (ties_of (bytes_at b at)) r i (omega (arith, ties_count s)))))

  pub ties_fair : {i : ℕ} → TiedUp b at i → pairs_at b at ≤ i → BadTies (alone b at) 0 → ⊥
  ties_fair t l (inl (u, m, h)) =
      let (q, k, e) = member_place m in
      let v : q < pairs_at b at = omega (arith, ties_count s) in
      let w : u ≡ pair_at b at q = e ∙ sym (tie_is s q v) in
      let f = t.fair q (omega arith) in
      refute (rw w at h) f
    where
      refute : {A B C : Type 0} → (A → ⊥) ⊎ (B → ⊥) ⊎ (C → ⊥) → A × B × C → ⊥
      refute (inl n) f = n f.0
      refute (inr (inl n)) f = n f.1
      refute (inr (inr n)) f = n f.2
  ties_fair t l (inr n) =
      n (rises_by (ties_of (bytes_at b at)) (λ q h.
      let v : q + 1 < pairs_at b at = omega (arith, ties_count s) in
      subst₂ (λ t u. Sooner (order t) (order u)) (tie_is s q (omega arith)) (on_end q v) (t.climbs q (omega arith) v)))
