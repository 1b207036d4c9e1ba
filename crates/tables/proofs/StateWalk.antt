-- The walk over a production's slots, by states: what is gathered from a state over the slots that are left.
use mathlib.Core.Path.{◌≡◌, sym, ◌∙◌, subst}
use mathlib.Core.Logic.{◌↔◌}
use mathlib.Core.List.{List}
use Prim.Native.Nat.{ℕ, ◌/◌, ◌%◌, ◌≤◌, ◌<◌}
use native.Mathlib.Omega.{arith}
use lib.ListN.{length}
use Rattle.chains.specs.Limits.{max_settings, max_kids}
use Rattle.chains.specs.Grammar.{Occ, Grammar, slots, width, Tied}
use Rattle.chains.specs.Chain.{Eqv, done, fwd}
use Rattle.chains.specs.Grouping.{Says}
use Rattle.chains.specs.Labels.{joins}
use Rattle.chains.specs.Gather.{Result, TiedTo, Remaining, Outside}
use Rattle.chains.specs.State.{number, Shown, dropped, code_on, code_pairs}
use Rattle.chains.proofs.Says.{says_unique}
use Rattle.chains.proofs.Gather.{result_map}
use Rattle.chains.proofs.State.{code_says}
use Rattle.chains.proofs.Tying.{turned}
use Rattle.book.specs.Format.{prods, entry, grammar}
use Rattle.bookcheck.specs.Accepted.{Accepted}
use Rattle.tables.specs.State.{Present, State, spot, Whole, tidied, based}
use Rattle.tables.proofs.State.{tie_means, forget_state, forget_present}
use Rattle.tables.proofs.StateTidy.{tidy_state, tidy_present, tidy_same}
use Rattle.tables.proofs.StateBase.{few_settings, base_present, base_chains}

-- a tidied state shows what it showed
pub tidy_shown : {s : List ℕ} → State s → (o q : Occ) → Shown (tidied s) o q ↔ Shown s o q
tidy_shown st o q = let t = tidy_same st (number o) (number q) in (λ (a, b, h). (a, b, t.0 h), λ (a, b, h). (a, b, t.1 h))

-- s, with the first a settings of slot j tied by the code c, and that slot dropped
abbrev pub stepped : List ℕ → ℕ → ℕ → ℕ → List ℕ
stepped s j a c = tidied (dropped j (joins s (code_pairs j a c)))

-- ---- a turn of the walk
module _ {s : List ℕ} (st : State s) (j a c : ℕ) (hj : j ≤ max_kids) (ha : a ≤ max_settings) (w : Whole s j a) where
  tied_state : State (joins s (code_pairs j a c))
  tied_state = (tie_means st j a c ha w).state

  dropped_state : State (dropped j (joins s (code_pairs j a c)))
  dropped_state = forget_state tied_state j hj

  -- what is left is a state, and has the other slots' settings
  pub step_state : State (stepped s j a c)
  step_state = tidy_state dropped_state

  pub step_present : (o : ℕ) → Present (stepped s j a c) o ↔ ((o / max_settings ≡ j → ⊥) × Present s o)
  step_present o =
      let t = tidy_present dropped_state o in
      let f = forget_present tied_state j hj o in
      let p = (tie_means st j a c ha w).present o in
      (λ h. let (n, q) = f.0 (t.0 h) in (n, p.0 q), λ (n, q). t.1 (f.1 (n, p.1 q)))

  pub step_whole : (i e : ℕ) → (i ≡ j → ⊥) → e ≤ max_settings → Whole s i e → Whole (stepped s j a c) i e
  step_whole i e n he u x hx =
      let d : spot i x / max_settings ≡ i = omega arith in
      (step_present (spot i x)).1 (λ q. n (sym d ∙ q), u x hx)

-- ---- results
-- THEOREM: a tidied state stands for the same results
pub tidy_result : (G : Grammar) (p : ℕ) {s : List ℕ} → State s → (t : ℕ) (Codes : ℕ → ℕ → Type 0) (Open : ℕ → Type 0) (x : ℕ)
    → Result G p t Codes Open (Shown (tidied s)) x ↔ Result G p t Codes Open (Shown s) x
tidy_result G p {s} st t Codes Open x = (
  result_map G p t Codes Codes Open Open (Shown (tidied s)) (Shown s) x (λ s h. h) (λ s h. h) (λ s c h m. m) to from,
  result_map G p t Codes Codes Open Open (Shown s) (Shown (tidied s)) x (λ s h. h) (λ s h. h) (λ s c h m. m) from to,
)
  where
    to : (o q : Occ) → Shown (tidied s) o q → Eqv (Shown s) o q
    to o q h = fwd done ((tidy_shown st o q).0 h)

    from : (o q : Occ) → Shown s o q → Eqv (Shown (tidied s)) o q
    from o q h = fwd done ((tidy_shown st o q).1 h)

-- the code that a state shows on slot t is the only one that says so
pub code_only : (A : ℕ) {s : List ℕ} → State s → (t : ℕ) → t ≤ max_kids → A ≤ max_settings → Whole s t A → (x : ℕ)
    → Says A x (λ a b. Eqv (Shown s) (t, a) (t, b)) ↔ (x ≡ code_on t A s)
code_only A {s} st t ht hw w x =
    let c = code_says s t A hw (omega (arith, st.long)) w in
    (λ h. says_unique h c, λ e. subst (λ y. Says A y (λ a b. Eqv (Shown s) (t, a) (t, b))) (sym e) c)

module _ (G : Grammar) (p : ℕ) {s : List ℕ} (st : State s) (j : ℕ) (hj : j ≤ max_kids) (hw : width G p j ≤ max_settings) (w : Whole s j (width G p j)) where
  -- what is left after slot j is tied and dropped
  pub step_result : (c t : ℕ) (Codes : ℕ → ℕ → Type 0) (Open : ℕ → Type 0) (x : ℕ)
      → Result G p t Codes Open (Remaining (Outside j) (TiedTo G p j c (Shown s))) x ↔ Result G p t Codes Open (Shown (stepped s j (width G p j) c)) x
  step_result c t Codes Open x =
      let a = turned G p j c hw s w (omega (arith, st.long)) t Codes Open x in
      let b = tidy_result G p (dropped_state st j (width G p j) c hj hw w) t Codes Open x in
      (λ r. b.1 (a.1 r), λ r. a.0 (b.0 r))

-- ---- the base of a production
module _ {b : List ℕ} (a : Accepted b) (p : ℕ) (l : p < prods b) where
  -- every setting of every slot is there
  pub base_whole : (t : ℕ) → t < length (slots (grammar b) p) → Whole (based b (entry b p)) t (width (grammar b) p t)
  base_whole t ht x hx =
      let w = few_settings a p l t ht in
      let d : spot t x / max_settings ≡ t = omega arith in
      let m : spot t x % max_settings ≡ x = omega arith in
      (base_present a p l (spot t x)).1 (rw d ht, rw (d, m) hx)

  -- THEOREM: the base stands for the production's dependences
  pub base_result : (t : ℕ) (Codes : ℕ → ℕ → Type 0) (Open : ℕ → Type 0) (x : ℕ)
      → Result (grammar b) p t Codes Open (Shown (based b (entry b p))) x ↔ Result (grammar b) p t Codes Open (Tied (grammar b) p) x
  base_result t Codes Open x = (
    result_map (grammar b) p t Codes Codes Open Open (Shown (based b (entry b p))) (Tied (grammar b) p) x (λ s h. h) (λ s h. h) (λ s c h m. m) to from,
    result_map (grammar b) p t Codes Codes Open Open (Tied (grammar b) p) (Shown (based b (entry b p))) x (λ s h. h) (λ s h. h) (λ s c h m. m) from to,
  )
    where
      to : (o q : Occ) → Shown (based b (entry b p)) o q → Eqv (Tied (grammar b) p) o q
      to o q h = (base_chains a p l o q).0 (fwd done h)

      from : (o q : Occ) → Tied (grammar b) p o q → Eqv (Shown (based b (entry b p))) o q
      from o q h = (base_chains a p l o q).1 (fwd done h)
