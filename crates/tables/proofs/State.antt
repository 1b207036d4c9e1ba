-- What the functions over a state mean: which occurrences are there afterwards, and which stand in one group.
use mathlib.Core.Path.{◌≡◌, sym, ap, ◌∙◌, subst₂}
use mathlib.Core.Logic.{◌⊎◌, inl, inr, ◌↔◌}
use mathlib.Core.Bool.{Bool, true, false}
use mathlib.Core.List.{List, [], ◌∷◌}
use Prim.Native.Nat.{ℕ, ◌+◌, ◌*◌, ◌/◌, ◌%◌, ◌≤◌, ◌<◌}
use native.Mathlib.Omega.{arith}
use native.Mathlib.Decide.{ℕ_discrete}
use lib.Dec.{eqb}
use lib.ListN.{length, get_or, replicate, get_or-replicate}
use Rattle.lists.specs.Pick.{pick}
use Rattle.lists.proofs.Order.{by_order}
use Rattle.lists.proofs.Parts.{place_long, get_d_before, get_d_this, get_d_after}
use Rattle.chains.specs.Limits.{max_settings, max_kids}
use Rattle.chains.specs.Grammar.{Named}
use Rattle.chains.specs.Chain.{Eqv, done, fwd, bwd}
use Rattle.chains.specs.Grouping.{label, unpack}
use Rattle.chains.specs.Labels.{joins, join_at_f, joins_f, index}
use Rattle.chains.specs.State.{SameLabel, dropped, code_pairs}
use Rattle.chains.proofs.Closure.{bind}
use Rattle.chains.proofs.Labels.{Ends, keeps, length_joins}
use Rattle.chains.proofs.State.{shown_joins, state_joins, state_labelled}
use Rattle.chains.proofs.Tying.{first_there, pairs_named, pairs_have, pairs_ends}
use Rattle.ranks.specs.Entries.{none}
use Rattle.tables.specs.State.{Present, Same, Low, State, spot, Whole, Joined, Grouped}

-- ---- joining
-- joining gives no label that there was not
joins_among : {X : Type 0} (P : ℕ → Type 0) (es : List (X × X)) (f : X → ℕ) → ((x : X) → P (f x)) → (x : X) → P (joins_f f es x)
unfolding joins_f
joins_among P [] f h x = h x
joins_among {X = X} P (e ∷ es) f h x = joins_among P es (join_at_f f e.0 e.1) (λ y. one y (eqb (f y) (f e.1))) x
  where
    one : (y : X) (b : Bool) → P (pick b (f e.0) (f y))
    one y true = h e.0
    one y false = h y

module _ {s : List ℕ} (st : State s) (es : List (ℕ × ℕ)) (ends : Ends (Present s) es) where
  same_to : (o o' : ℕ) → Same (joins s es) o o' → SameLabel (joins_f (λ i. get_or s i none) es) o o'
  same_to o o' h = subst₂ (λ a b. (a < none) × (b < none) × (a ≡ b)) (state_joins s es ends o) (state_joins s es ends o') h

  -- THEOREM: pairs of occurrences that are there, joined
  pub joins_means : Joined s (Named es) (joins s es)
  joins_means = record {
    state = record {
      long = length_joins s es ∙ st.long;
      low = λ o. rw (state_joins s es ends o) (joins_among Low es (λ i. get_or s i none) st.low o);
    };
    present = state_labelled s es ends;
    same = λ o o' p p'.
        let t = shown_joins es (λ i. get_or s i none) ends o o' in
        let e = state_joins s es ends in (
          λ h. t.0 (fwd done (same_to o o' h)),
          λ c. ((state_labelled s es ends o).1 p, (state_labelled s es ends o').1 p', e o ∙ keeps (joins_f (λ i. get_or s i none) es) (λ x y r. r.2) (t.1 c) ∙ sym (e o')),
        );
  }

-- the same where R and R' have the same chains beside the groups of s
pub joined_by : {s s' : List ℕ} {R : ℕ → ℕ → Type 0} (R' : ℕ → ℕ → Type 0) → Joined s R s'
    → ((x y : ℕ) → R x y → Eqv (λ x y. Same s x y ⊎ R' x y) x y) → ((x y : ℕ) → R' x y → Eqv (λ x y. Same s x y ⊎ R x y) x y) → Joined s R' s'
joined_by {s} {s'} {R} R' h to from = record {
  state = h.state;
  present = h.present;
  same = λ o o' p p'. (λ e. bind forth ((h.same o o' p p').0 e), λ c. (h.same o o' p p').1 (bind back c));
}
  where
    forth : (x y : ℕ) → Same s x y ⊎ R x y → Eqv (λ x y. Same s x y ⊎ R' x y) x y
    forth x y (inl e) = fwd done (inl e)
    forth x y (inr r) = to x y r

    back : (x y : ℕ) → Same s x y ⊎ R' x y → Eqv (λ x y. Same s x y ⊎ R x y) x y
    back x y (inl e) = fwd done (inl e)
    back x y (inr r) = from x y r

-- ---- tying
module _ {s : List ℕ} (st : State s) (t a c : ℕ) (few : a ≤ max_settings) (w : Whole s t a) where
  pairs_there : Ends (Present s) (code_pairs t a c)
  pairs_there = pairs_ends a c t (Present s) w 0 a (omega arith)

  paired : (x y : ℕ) → Named (code_pairs t a c) x y → Grouped t a c x y
  paired x y n =
      let (b, hb, u, v) = pairs_named a c t 0 a (omega arith) x y n in
      let (hf, e) = first_there a c b hb in
      (index (label c b) (unpack a c), b, hf, hb, u, v, e)

  -- each has the first one of its label
  led : (i : ℕ) → i < a → Named (code_pairs t a c) (spot t (index (label c i) (unpack a c))) (spot t i)
  led i h = pairs_have a c t 0 a i (omega arith) (omega arith)

  grouped : (x y : ℕ) → Grouped t a c x y → Eqv (λ x y. Same s x y ⊎ Named (code_pairs t a c) x y) x y
  grouped x y (i, j, hi, hj, u, v, e) =
      let n : Named (code_pairs t a c) (spot t (index (label c i) (unpack a c))) x = rw u (led i hi) in
      let m : Named (code_pairs t a c) (spot t (index (label c i) (unpack a c))) y = rw (v, e) (led j hj) in
      fwd (bwd done (inr n)) (inr m)

  -- THEOREM: a slot tied as a code groups its settings, which are all there
  pub tie_means : Joined s (Grouped t a c) (joins s (code_pairs t a c))
  tie_means = joined_by (Grouped t a c) (joins_means st (code_pairs t a c) pairs_there) (λ x y n. fwd done (inr (paired x y n))) grouped

-- ---- dropping
module _ {s : List ℕ} (st : State s) (t : ℕ) (ht : t ≤ max_kids) where
  room : t * max_settings + length (replicate {A = ℕ} max_settings none) ≤ length s
  room = omega (arith, st.long)

  within : (o : ℕ) → o / max_settings ≡ t → get_or (dropped t s) o none ≡ none
  within o e =
      let q : o ≡ t * max_settings + o % max_settings = omega arith in
      ap (λ (i : ℕ). get_or (dropped t s) i none) q ∙ get_d_this s (t * max_settings) (replicate max_settings none) room (o % max_settings) none (omega arith) ∙ get_or-replicate max_settings (o % max_settings) none none (omega arith)

  beside : (o : ℕ) → (o / max_settings ≡ t → ⊥) → get_or (dropped t s) o none ≡ get_or s o none
  beside o n =
      by_order (get_or (dropped t s) o none ≡ get_or s o none) (o / max_settings) t (λ e. absurd (n e))
      (λ b. get_d_before s (t * max_settings) (replicate max_settings none) room o none (omega arith)) (λ b. get_d_after s (t * max_settings) (replicate max_settings none) room o none (omega arith))

  out_of : (o : ℕ) → Present (dropped t s) o → o / max_settings ≡ t → ⊥
  out_of o p e = omega (arith, within o e)

  -- THEOREM: a slot dropped: the others' occurrences are there as they were
  pub forget_state : State (dropped t s)
  forget_state = record { long = place_long s (t * max_settings) (replicate max_settings none) room ∙ st.long; low = λ o. by_slot o (ℕ_discrete (o / max_settings) t) }
    where
      by_slot : (o : ℕ) → Dec (o / max_settings ≡ t) → Low (get_or (dropped t s) o none)
      by_slot o (yes e) = inr (within o e)
      by_slot o (no n) = rw (beside o n) (st.low o)

  pub forget_present : (o : ℕ) → Present (dropped t s) o ↔ ((o / max_settings ≡ t → ⊥) × Present s o)
  forget_present o = (λ p. (out_of o p, rw (beside o (out_of o p)) at p), λ (n, p). rw (beside o n) p)
