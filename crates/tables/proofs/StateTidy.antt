-- A state tidied: the same occurrences in the same groups, labelled by first appearance. So it is what a down entry holds.
use mathlib.Core.Path.{◌≡◌, refl, sym, ap, ◌∙◌}
use mathlib.Core.Logic.{inl, inr, ◌↔◌}
use mathlib.Core.Bool.{Bool, true, false}
use mathlib.Core.List.{List, [], ◌∷◌}
use Prim.Native.Nat.{ℕ, suc, ◌+◌, ◌≤◌, ◌<◌}
use native.Mathlib.Omega.{arith}
use native.Mathlib.Decide.{dec_lt, ℕ_discrete}
use borrow.Author.Tests.{eq-eqb, ne_eqb}
use lib.Dec.{eqb}
use lib.ListN.{length, get_or, get_or-eq_default}
use Rattle.lists.specs.Pick.{pick}
use Rattle.chains.specs.Grammar.{Occ, Grammar, Exists}
use Rattle.chains.specs.Grouping.{Proper}
use Rattle.chains.specs.Labels.{index, add, canon_from, canon}
use Rattle.chains.proofs.Appearance.{index_le, length_canon, canon_iff, canon_proper, proper_le}
use Rattle.book.specs.Format.{occ}
use Rattle.bookcheck.proofs.Decided.{exists_decided}
use Rattle.ranks.specs.Entries.{labels, none}
use Rattle.tables.specs.Entries.{kept, Labelled}
use Rattle.tables.specs.State.{Present, Same, Low, State, tidy_from, tidied}
use Rattle.tables.proofs.StateNumbers.{add_long}
use Rattle.tables.proofs.StateKept.{Stands, before, kept_at, Fit, end, gap, both, fit, fit_before, fit_long, fit_gap, labels_once}

-- the gaps stay, as long as there are numbers for the labels
tidy_fits : (l seen : List ℕ) → length seen + length l < none → Fit (tidy_from seen l) l
unfolding tidy_from
tidy_fits [] seen h = end
tidy_fits (x ∷ l) seen h = go (ℕ_discrete x none) (tidy_fits l seen (omega arith)) (tidy_fits l (add x seen) (omega (arith, add_long x seen)))
  where
    go : Dec (x ≡ none) → Fit (tidy_from seen l) l → Fit (tidy_from (add x seen) l) l
        → Fit (pick (eqb x none) (none ∷ tidy_from seen l) (index x seen ∷ tidy_from (add x seen) l)) (x ∷ l)
    go (yes e) f g = rw (eq-eqb x none e) (gap refl e f)
    go (no e) f g =
        let n : index x seen ≡ none → ⊥ = λ q. omega (arith, index_le x seen) in
        rw (ne_eqb x none e) (both n e g)

-- what stands is numbered by first appearance
tidy_kept : (l seen : List ℕ) → length seen + length l < none → kept (tidy_from seen l) ≡ canon_from seen (kept l)
unfolding tidy_from kept canon_from
tidy_kept [] seen h = refl
tidy_kept (x ∷ l) seen h = go (ℕ_discrete x none) (tidy_kept l seen (omega arith)) (tidy_kept l (add x seen) (omega (arith, add_long x seen)))
  where
    go : Dec (x ≡ none) → kept (tidy_from seen l) ≡ canon_from seen (kept l) → kept (tidy_from (add x seen) l) ≡ canon_from (add x seen) (kept l)
        → kept (pick (eqb x none) (none ∷ tidy_from seen l) (index x seen ∷ tidy_from (add x seen) l)) ≡ canon_from seen (pick (eqb x none) (kept l) (x ∷ kept l))
    go (yes e) f g = rw (eq-eqb x none e, eq-eqb none none refl) f
    go (no e) f g = rw (ne_eqb x none e, ne_eqb (index x seen) none (λ q. omega (arith, index_le x seen))) (ap (λ (r : List ℕ). index x seen ∷ r) g)

kept_short : (l : List ℕ) → length (kept l) ≤ length l
unfolding kept
kept_short [] = omega arith
kept_short (x ∷ l) = go (eqb x none) (kept_short l)
  where
    go : (b : Bool) → length (kept l) ≤ length l → length (pick b (kept l) (x ∷ kept l)) ≤ suc (length l)
    go true h = omega arith
    go false h = omega arith

-- of a state, what is there stands, and the other way round
module _ {s : List ℕ} (st : State s) where
  pub stands : (o : ℕ) → Present s o → Stands s o
  stands o p e = omega arith

  pub present : (o : ℕ) → Stands s o → Present s o
  present o h = elim (st.low o) [ inl l ↦ omega arith | inr e ↦ absurd (h e) ]

  few : length {A = ℕ} [] + length s < none
  few = omega (arith, st.long)

  fits : Fit (tidied s) s
  fits = tidy_fits s [] few

  -- the new label of what stands at o
  at : (o : ℕ) → Stands s o → (get_or (tidied s) o none ≡ get_or (canon (kept s)) (before s o) 0) × (before s o < length (kept s))
  at o h =
      let k = kept_at (tidied s) o (λ e. h ((fit_gap fits o).0 e)) in (
        sym k.1 ∙ ap (λ (u : List ℕ). get_or u (before (tidied s) o) 0) (tidy_kept s [] few) ∙ ap (λ (i : ℕ). get_or (canon (kept s)) i 0) (fit_before fits o),
        (kept_at s o h).0,
      )

  low_label : (o : ℕ) → Stands s o → get_or (tidied s) o none < labels
  low_label o h =
      let (e, l) = at o h in
      let p = proper_le (canon (kept s)) 0 (before s o) (canon_proper (kept s) []) (omega (arith, length_canon (kept s) [])) in
      omega (arith, kept_short s, st.long)

  -- THEOREM: tidying keeps a state, what is there and what stands in one group
  pub tidy_state : State (tidied s)
  tidy_state = record { long = fit_long fits ∙ st.long; low = λ o. by_gap o (ℕ_discrete (get_or s o none) none) }
    where
      by_gap : (o : ℕ) → Dec (get_or s o none ≡ none) → Low (get_or (tidied s) o none)
      by_gap o (yes e) = inr ((fit_gap fits o).1 e)
      by_gap o (no h) = inl (low_label o h)

  pub tidy_present : (o : ℕ) → Present (tidied s) o ↔ Present s o
  tidy_present o = (
    λ p. present o (λ e. let g = (fit_gap fits o).1 e in omega arith),
    λ p. let l = low_label o (stands o p) in omega arith,
  )

  equal : (o o' : ℕ) → Stands s o → Stands s o' → (get_or (tidied s) o none ≡ get_or (tidied s) o' none) ↔ (get_or s o none ≡ get_or s o' none)
  equal o o' h h' =
      let (e, l) = at o h in
      let (e', l') = at o' h' in
      let t = canon_iff (kept s) (before s o) (before s o') l l' in
      let k = (kept_at s o h).1 in
      let k' = (kept_at s o' h').1 in
      (λ q. sym k ∙ t.0 (sym e ∙ q ∙ e') ∙ k', λ q. e ∙ t.1 (k ∙ q ∙ sym k') ∙ sym e')

  pub tidy_same : (o o' : ℕ) → Same (tidied s) o o' ↔ Same s o o'
  tidy_same o o' = (
    λ (p, p', e).
        let q = (tidy_present o).0 p in
        let q' = (tidy_present o').0 p' in
        (q, q', (equal o o' (stands o q) (stands o' q')).0 e),
    λ (q, q', e). ((tidy_present o).1 q, (tidy_present o').1 q', (equal o o' (stands o q) (stands o' q')).1 e),
  )

  pub tidy_proper : Proper 0 (kept (tidied s))
  tidy_proper = rw (tidy_kept s [] few) (canon_proper (kept s) [])

-- ---- what a down entry holds
module _ (G : Grammar) (p : ℕ) (R : Occ → Occ → Type 0) where
  -- THEOREM: a state of a production's occurrences, with R's groups, is labelled once it is tidied
  pub tidy_labelled : {s : List ℕ} → State s → ((o : ℕ) → o < labels → Present s o ↔ Exists G p (occ o))
      → ((o o' : ℕ) → Present s o → Present s o' → Same s o o' ↔ R (occ o) (occ o')) → Labelled G p R (tidied s)
  tidy_labelled {s} st there same = record {
    long = (tidy_state st).long;
    present = λ o h x. (tidy_present st o).1 ((there o h).1 x);
    absent = λ o h n. elim ((tidy_state st).low o) [ inl l ↦ absurd (n ((there o h).0 ((tidy_present st o).0 (omega arith)))) | inr e ↦ e ];
    first = tidy_proper st;
    same = λ o o' h h' x x'.
        let q = (there o h).1 x in
        let q' = (there o' h').1 x' in
        let t = tidy_same st o o' in
        let u = same o o' q q' in
        (λ e. u.0 (t.0 ((tidy_present st o).1 q, (tidy_present st o').1 q', e)), λ r. (t.1 (u.1 r)).2);
  }

  -- THEOREM: labels for one R are one list
  pub labelled_once : (l m : List ℕ) → Labelled G p R l → Labelled G p R m → l ≡ m
  labelled_once l m a b = labels_once l m gaps a.first b.first groups
    where
      gap_to : {u v : List ℕ} → Labelled G p R u → Labelled G p R v → (o : ℕ) → o < labels → get_or u o none ≡ none → get_or v o none ≡ none
      gap_to {u} {v} c d o h e = elim (exists_decided G p (occ o)) [ yes x ↦ absurd (let z = c.present o h x in omega arith) | no n ↦ d.absent o h n ]

      gaps : Fit l m
      gaps = fit l m (a.long ∙ sym b.long) (λ o h. (gap_to a b o (omega (arith, a.long)), gap_to b a o (omega (arith, a.long))))

      inside : (o : ℕ) → Stands l o → o < labels
      inside o h = elim (dec_lt o labels) [ yes k ↦ k | no k ↦ absurd (h (get_or-eq_default l none (omega (arith, a.long)))) ]

      exists : (o : ℕ) → Stands l o → Exists G p (occ o)
      exists o h = elim (exists_decided G p (occ o)) [ yes x ↦ x | no n ↦ absurd (h (a.absent o (inside o h) n)) ]

      groups : (o o' : ℕ) → Stands l o → Stands l o' → (get_or l o none ≡ get_or l o' none) ↔ (get_or m o none ≡ get_or m o' none)
      groups o o' h h' =
          let t = a.same o o' (inside o h) (inside o' h') (exists o h) (exists o' h') in
          let u = b.same o o' (inside o h) (inside o' h') (exists o h) (exists o' h') in
          (λ e. u.1 (t.0 e), λ e. t.1 (u.0 e))
