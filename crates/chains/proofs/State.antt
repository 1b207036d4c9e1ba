-- States: what joining, dropping a slot and reading a code off a slot mean for what a state shows.
use mathlib.Core.Path.{◌≡◌, refl, sym, ap, ◌∙◌, subst, subst₂, Σ_path}
use mathlib.Core.Logic.{◌⊎◌, inl, inr, ◌↔◌}
use mathlib.Core.Bool.{Bool, true, false}
use mathlib.Core.List.{List, [], ◌∷◌, map}
use Prim.Native.Nat.{ℕ, zero, suc, ◌+◌, ◌*◌, ◌/◌, ◌%◌, ◌≤◌, ◌<◌}
use native.Mathlib.Omega.{arith}
use borrow.Author.Tests.{eqb-true, ne_eqb}
use lib.Dec.{eqb}
use lib.ListN.{length, get_or, replicate, get_or-replicate, get_or-eq_default, get_or-map}
use Rattle.lists.specs.Pick.{pick}
use Rattle.lists.specs.Part.{part}
use Rattle.lists.proofs.Order.{by_order}
use Rattle.lists.proofs.Parts.{length_part, get_d_part, get_d_before, get_d_this, get_d_after}
use Rattle.chains.specs.Limits.{max_settings, no_label}
use Rattle.chains.specs.Grammar.{Occ, Tie, Named}
use Rattle.chains.specs.Chain.{Eqv, done, fwd, bwd}
use Rattle.chains.specs.Grouping.{Says}
use Rattle.chains.specs.Labels.{swap, relabel, join_at, joins, join_at_f, joins_f}
use Rattle.chains.specs.Gather.{Outside}
use Rattle.chains.specs.State.{number, numbers, label_of, SameLabel, ByNumber, Shown, dropped, code_on}
use Rattle.chains.proofs.Closure.{bind, more, along}
use Rattle.chains.proofs.Labels.{Ends, ends_map, named_ends, keeps, joined_ends, joins_f_agree}
use Rattle.chains.proofs.Says.{says_map, says_canon}

-- ---- joining where some have no label
module _ {X : Type 0} (f : X → ℕ) (p q : X) (hp : f p < no_label) (hq : f q < no_label) where
  -- what has a label has one after a pair is joined, and what has none has none
  swap_labelled : (x : X) → f x < no_label → join_at_f f p q x < no_label
  swap_labelled x h = go (eqb (f x) (f q))
    where
      go : (b : Bool) → pick b (f p) (f x) < no_label
      go true = hp
      go false = h

  unswap_labelled : (x : X) → join_at_f f p q x < no_label → f x < no_label
  unswap_labelled x h = go (eqb (f x) (f q)) refl h
    where
      go : (b : Bool) → eqb (f x) (f q) ≡ b → pick b (f p) (f x) < no_label → f x < no_label
      go true e k = rw (eqb-true (f x) (f q) e) hq
      go false e k = k

  -- a pair joined
  abbrev Or : X → X → Type 0
  Or x y = SameLabel f x y ⊎ ((x ≡ p) × (y ≡ q))

  join_to : (x y : X) → SameLabel (join_at_f f p q) x y → Eqv Or x y
  join_to x y (hx, hy, e) = go (eqb (f x) (f q)) (eqb (f y) (f q)) refl refl e
    where
      lx : f x < no_label
      lx = unswap_labelled x hx

      ly : f y < no_label
      ly = unswap_labelled y hy

      go : (s t : Bool) → eqb (f x) (f q) ≡ s → eqb (f y) (f q) ≡ t → pick s (f p) (f x) ≡ pick t (f p) (f y) → Eqv Or x y
      go true true u v e = fwd done (inl (lx, ly, eqb-true _ _ u ∙ sym (eqb-true _ _ v)))
      go true false u v e = fwd (bwd (fwd {y = x} {z = q} done (inl (lx, hq, eqb-true _ _ u))) (inr (refl, refl))) (inl (hp, ly, e))
      go false true u v e = fwd (fwd (fwd {y = x} {z = p} done (inl (lx, hp, e))) (inr (refl, refl))) (inl (hq, ly, sym (eqb-true _ _ v)))
      go false false u v e = fwd done (inl (lx, ly, e))

  join_from : (x y : X) → Or x y → SameLabel (join_at_f f p q) x y
  join_from x y (inl (hx, hy, e)) = (swap_labelled x hx, swap_labelled y hy, ap (swap (f p) (f q)) e)
  join_from x y (inr (u, v)) = rw (u, v) (swap_labelled p hp, swap_labelled q hq, joined_ends f p q)

module _ {X : Type 0} where
  -- THEOREM: joining along pairs of things with labels gives the closure of what had one label and the pairs
  pub shown_joins : (es : List (X × X)) (f : X → ℕ) → Ends (λ x. f x < no_label) es → (x y : X)
      → Eqv (SameLabel (joins_f f es)) x y ↔ Eqv (λ x y. SameLabel f x y ⊎ Named es x y) x y
  unfolding joins_f Ends
  shown_joins [] f h x y = (more (λ x y s. inl s), bind none)
    where
      none : (x y : X) → SameLabel f x y ⊎ ⊥ → Eqv (SameLabel f) x y
      none x y (inl s) = fwd done s
      none x y (inr x5) = elim x5 [ ]
  shown_joins (e ∷ es) f (hp, hq, h) x y =
      let g : X → ℕ = join_at_f f e.0 e.1 in
      let t = shown_joins es g (ends_map (λ x. f x < no_label) (λ x. g x < no_label) (swap_labelled f e.0 e.1 hp hq) es h) x y in
      (λ c. bind earlier (t.0 c), λ c. t.1 (bind later c))
    where
      widen : (x y : X) → Or f e.0 e.1 hp hq x y → SameLabel f x y ⊎ Named (e ∷ es) x y
      widen x y (inl s) = inl s
      widen x y (inr u) = inr (inl u)

      earlier : (x y : X) → SameLabel (join_at_f f e.0 e.1) x y ⊎ Named es x y → Eqv (λ x y. SameLabel f x y ⊎ Named (e ∷ es) x y) x y
      earlier x y (inl s) = more widen (join_to f e.0 e.1 hp hq x y s)
      earlier x y (inr n) = fwd done (inr (inr n))

      later : (x y : X) → SameLabel f x y ⊎ Named (e ∷ es) x y → Eqv (λ x y. SameLabel (join_at_f f e.0 e.1) x y ⊎ Named es x y) x y
      later x y (inl s) = fwd done (inl (join_from f e.0 e.1 hp hq x y (inl s)))
      later x y (inr (inl u)) = fwd done (inl (join_from f e.0 e.1 hp hq x y (inr u)))
      later x y (inr (inr n)) = fwd done (inr n)

  -- and labels what was labelled
  pub joins_labelled : (es : List (X × X)) (f : X → ℕ) → Ends (λ x. f x < no_label) es → (x : X) → (joins_f f es x < no_label) ↔ (f x < no_label)
  unfolding joins_f Ends
  joins_labelled [] f h x = (λ l. l, λ l. l)
  joins_labelled (e ∷ es) f (hp, hq, h) x =
      let g : X → ℕ = join_at_f f e.0 e.1 in
      let t = joins_labelled es g (ends_map (λ x. f x < no_label) (λ x. g x < no_label) (swap_labelled f e.0 e.1 hp hq) es h) x in
      (λ l. unswap_labelled f e.0 e.1 hp hq x (t.0 l), λ l. t.1 (swap_labelled f e.0 e.1 hp hq x l))

-- ---- lists of labels
-- what has a label is in the list
pub labelled_in : (l : List ℕ) (i : ℕ) → get_or l i no_label < no_label → i < length l
labelled_in l i h =
    by_order (i < length l) i (length l)
    (λ e. absurd (omega (arith, get_or-eq_default l no_label {n = i} (omega arith)))) (λ k. k) (λ k. absurd (omega (arith, get_or-eq_default l no_label {n = i} (omega arith))))

-- in the list, what is read past its end is of no matter
pub get_d_any : (l : List ℕ) (i d e : ℕ) → i < length l → get_or l i d ≡ get_or l i e
get_d_any [] i d e h = absurd (omega arith)
get_d_any (x ∷ l) zero d e h = refl
get_d_any (x ∷ l) (suc i) d e h = get_d_any l i d e (omega arith)

-- one pair joined in a list
joined_one : (l : List ℕ) (p q : ℕ) → get_or l p no_label < no_label → get_or l q no_label < no_label → (i : ℕ) → get_or (join_at l p q) i no_label ≡ join_at_f (λ i. get_or l i no_label) p q i
unfolding relabel
joined_one l p q hp hq i =
    let ep : get_or l p 0 ≡ get_or l p no_label = get_d_any l p 0 no_label (labelled_in l p hp) in
    let eq : get_or l q 0 ≡ get_or l q no_label = get_d_any l q 0 no_label (labelled_in l q hq) in
    let z : swap (get_or l p no_label) (get_or l q no_label) no_label ≡ no_label = rw (ne_eqb no_label (get_or l q no_label) (λ e. omega arith)) in
    rw (ep, eq) (subst (λ d. get_or (map (swap (get_or l p no_label) (get_or l q no_label)) l) i d ≡ swap (get_or l p no_label) (get_or l q no_label) (get_or l i no_label)) z (get_or-map (swap (get_or l p no_label) (get_or l q no_label)) l i no_label))

-- THEOREM: the labels of a state after joining, of every number
pub state_joins : (l : List ℕ) (es : List (ℕ × ℕ)) → Ends (λ i. get_or l i no_label < no_label) es → (i : ℕ) → get_or (joins l es) i no_label ≡ joins_f (λ i. get_or l i no_label) es i
unfolding joins joins_f Ends
state_joins l [] h i = refl
state_joins l (e ∷ es) (hp, hq, h) i =
    let g : ℕ → ℕ = join_at_f (λ i. get_or l i no_label) e.0 e.1 in
    let one : (i : ℕ) → get_or (join_at l e.0 e.1) i no_label ≡ join_at_f (λ i. get_or l i no_label) e.0 e.1 i = joined_one l e.0 e.1 hp hq in
    let w : Ends (λ i. get_or (join_at l e.0 e.1) i no_label < no_label) es =
    ends_map (λ i. get_or l i no_label < no_label) (λ i. get_or (join_at l e.0 e.1) i no_label < no_label) (λ i k. rw (one i) (swap_labelled (λ i. get_or l i no_label) e.0 e.1 hp hq i k)) es h in
    state_joins (join_at l e.0 e.1) es w i
    ∙ joins_f_agree (λ i. Unit {0}) es (λ i. get_or (join_at l e.0 e.1) i no_label) g (λ i u. one i) (ends_map (λ i. get_or l i no_label < no_label) (λ i. Unit {0}) (λ i k. tt) es h) i tt

-- joining labels what was labelled
pub state_labelled : (l : List ℕ) (es : List (ℕ × ℕ)) → Ends (λ i. get_or l i no_label < no_label) es → (i : ℕ) → (get_or (joins l es) i no_label < no_label) ↔ (get_or l i no_label < no_label)
state_labelled l es h i = rw (state_joins l es h i) (joins_labelled es (λ i. get_or l i no_label) h i)

-- ---- from numbers to occurrences
module _ (R : ℕ → ℕ → Type 0) where
  place_of : ℕ → Occ
  place_of i = (i / max_settings, i % max_settings)

  placed : (i j : ℕ) → R i j → Eqv (ByNumber R) (place_of i) (place_of j)
  unfolding place_of
  placed i j r =
      let u : i ≡ i / max_settings * max_settings + i % max_settings = omega arith in
      let v : j ≡ j / max_settings * max_settings + j % max_settings = omega arith in
      let r' : ByNumber R (place_of i) (place_of j) = (omega arith, omega arith, subst₂ R u v r) in
      fwd done r'

  place_number : (o : Occ) → o.1 < max_settings → place_of (number o) ≡ o
  unfolding place_of
  place_number o h =
      let d : (o.0 * max_settings + o.1) / max_settings ≡ o.0 = omega arith in
      let m : (o.0 * max_settings + o.1) % max_settings ≡ o.1 = omega arith in
      rw (d, m)

  -- chains of numbers are chains of occurrences
  pub by_number : (o q : Occ) → o.1 < max_settings → q.1 < max_settings → Eqv (ByNumber R) o q ↔ Eqv R (number o) (number q)
  by_number o q ho hq = (
    λ c. along number (λ o q r. fwd done r.2) c,
    λ c. subst₂ (Eqv (ByNumber R)) (place_number o ho) (place_number q hq) (along place_of placed c),
  )

-- what a state shows is symmetric and transitive, so that chains of it go no further
pub shown_ends : (l : List ℕ) (o q : Occ) → Eqv (Shown l) o q → (o ≡ q) ⊎ Shown l o q
shown_ends l o q done = inl refl
shown_ends l o q (fwd {y = r} c (hr, hq, (br, bq, e))) =
    elim (shown_ends l o r c) [ inl f ↦ inr (rw f (hr, hq, (br, bq, e))) | inr k ↦ inr (k.0, hq, (k.2.0, bq, k.2.2 ∙ e)) ]
shown_ends l o q (bwd {y = r} c (hq, hr, (bq, br, e))) =
    elim (shown_ends l o r c) [ inl f ↦ inr (rw f (hr, hq, (br, bq, sym e))) | inr k ↦ inr (k.0, hq, (k.2.0, bq, k.2.2 ∙ sym e)) ]

-- THEOREM: what a state shows after joining is the closure of what it showed and the pairs
pub state_tied : (l : List ℕ) (es : List (ℕ × ℕ)) → Ends (λ i. get_or l i no_label < no_label) es → (o q : Occ)
    → Eqv (Shown (joins l es)) o q ↔ Eqv (λ o q. Shown l o q ⊎ ByNumber (Named es) o q) o q
state_tied l es h o q = (bind forth, bind aback)
  where
    labels_tied : (i j : ℕ) → Eqv (SameLabel (λ i. get_or (joins l es) i no_label)) i j ↔ Eqv (λ i j. SameLabel (λ i. get_or l i no_label) i j ⊎ Named es i j) i j
    labels_tied i j =
        let t = shown_joins es (λ i. get_or l i no_label) h i j in
        let at = state_joins l es h in (
          λ c. t.0 (more (λ i j s. subst₂ (λ a b. (a < no_label) × (b < no_label) × (a ≡ b)) (at i) (at j) s) c),
          λ c. more (λ i j s. subst₂ (λ a b. (a < no_label) × (b < no_label) × (a ≡ b)) (sym (at i)) (sym (at j)) s) (t.1 c),
        )

    apart : (o q : Occ) → ByNumber (λ i j. SameLabel (λ i. get_or l i no_label) i j ⊎ Named es i j) o q → Shown l o q ⊎ ByNumber (Named es) o q
    apart o q (ho, hq, inl s) = inl (ho, hq, s)
    apart o q (ho, hq, inr n) = inr (ho, hq, n)

    forth : (o q : Occ) → Shown (joins l es) o q → Eqv (λ o q. Shown l o q ⊎ ByNumber (Named es) o q) o q
    forth o q (ho, hq, s) =
        more apart ((by_number (λ i j. SameLabel (λ i. get_or l i no_label) i j ⊎ Named es i j) o q ho hq).1 ((labels_tied (number o) (number q)).0 (fwd done s)))

    joined : (o q : Occ) → o.1 < max_settings → q.1 < max_settings → SameLabel (λ i. get_or l i no_label) (number o) (number q) ⊎ Named es (number o) (number q) → Eqv (Shown (joins l es)) o q
    joined o q ho hq s = (by_number (SameLabel (λ i. get_or (joins l es) i no_label)) o q ho hq).1 ((labels_tied (number o) (number q)).1 (fwd done s))

    aback : (o q : Occ) → Shown l o q ⊎ ByNumber (Named es) o q → Eqv (Shown (joins l es)) o q
    aback o q (inl (ho, hq, s)) = joined o q ho hq (inl s)
    aback o q (inr (ho, hq, n)) = joined o q ho hq (inr n)

-- ---- the base of a production: all apart, then joined along its ties
pub number_inj : (o q : Occ) → o.1 < max_settings → q.1 < max_settings → number o ≡ number q → o ≡ q
number_inj o q ho hq e = Σ_path (omega arith) (omega arith)

-- where every label is an occurrence's own number, nothing is shown but each with itself, and pairs joined are all that is chained
pub base_shown : (l : List ℕ) (es : List (ℕ × ℕ)) → ((i : ℕ) → get_or l i no_label < no_label → get_or l i no_label ≡ i) → Ends (λ i. get_or l i no_label < no_label) es → (o q : Occ)
    → Eqv (Shown (joins l es)) o q ↔ Eqv (ByNumber (Named es)) o q
base_shown l es own h o q = let t = state_tied l es h o q in (λ c. bind only (t.0 c), λ c. t.1 (more (λ o q n. inr n) c))
  where
    only : (o q : Occ) → Shown l o q ⊎ ByNumber (Named es) o q → Eqv (ByNumber (Named es)) o q
    only o q (inl (ho, hq, (bo, bq, e))) =
        subst (Eqv (ByNumber (Named es)) o) (number_inj o q ho hq (sym (own (number o) bo) ∙ e ∙ own (number q) bq)) done
    only o q (inr n) = fwd done n

-- pairs of numbers that are ties: what they name of occurrences is what the ties do
pub ties_numbered : (ts : List Tie) → Ends (λ o. o.1 < max_settings) ts → (o q : Occ) → ByNumber (Named (numbers ts)) o q ↔ Named ts o q
unfolding Ends
ties_numbered ts h o q = (λ (ho, hq, n). to ts h ho hq n, λ n. let e = named_ends (λ o. o.1 < max_settings) ts h o q n in (e.0, e.1, from ts n))
  where
    to : (ts : List Tie) → Ends (λ o. o.1 < max_settings) ts → o.1 < max_settings → q.1 < max_settings → Named (numbers ts) (number o) (number q) → Named ts o q
    to [] h ho hq n = absurd n
    to (t ∷ ts) h ho hq (inl (u, v)) = inl (number_inj o t.0 ho h.0 u, number_inj q t.1 hq h.1 v)
    to (t ∷ ts) h ho hq (inr n) = inr (to ts h.2 ho hq n)

    from : (ts : List Tie) → Named ts o q → Named (numbers ts) (number o) (number q)
    from [] n = absurd n
    from (t ∷ ts) (inl (u, v)) = inl (ap number u, ap number v)
    from (t ∷ ts) (inr n) = inr (from ts n)

-- ---- dropping a slot
module _ (s : ℕ) (l : List ℕ) (h : s * max_settings + max_settings ≤ length l) where
  room : s * max_settings + length (replicate {A = ℕ} max_settings no_label) ≤ length l
  room = h

  inside : (o : Occ) → o.1 < max_settings → o.0 ≡ s → label_of (dropped s l) o ≡ no_label
  inside o k e = rw e (get_d_this l (s * max_settings) (replicate max_settings no_label) room o.1 no_label k ∙ get_or-replicate max_settings o.1 no_label no_label k)

  -- the other slots' labels stay
  pub dropped_other : (o : Occ) → o.1 < max_settings → Outside s o → label_of (dropped s l) o ≡ label_of l o
  dropped_other o k n =
      by_order (label_of (dropped s l) o ≡ label_of l o) o.0 s (λ e. absurd (n e))
      (λ b. get_d_before l (s * max_settings) (replicate max_settings no_label) room (number o) no_label (omega arith)) (λ b. get_d_after l (s * max_settings) (replicate max_settings no_label) room (number o) no_label (omega arith))

  not_inside : (o : Occ) → o.1 < max_settings → label_of (dropped s l) o < no_label → Outside s o
  not_inside o k b e = omega (arith, inside o k e)

  -- THEOREM: a state without slot s shows what it showed of the other slots
  pub shown_dropped : (o q : Occ) → Shown (dropped s l) o q ↔ (Outside s o × Outside s q × Shown l o q)
  shown_dropped o q = (to, from)
    where
      to : Shown (dropped s l) o q → Outside s o × Outside s q × Shown l o q
      to (ho, hq, (bo, bq, e)) =
          let fo = not_inside o ho bo in
          let fq = not_inside q hq bq in
          (fo, fq, (ho, hq, subst₂ (λ a b. (a < no_label) × (b < no_label) × (a ≡ b)) (dropped_other o ho fo) (dropped_other q hq fq) (bo, bq, e)))

      from : Outside s o × Outside s q × Shown l o q → Shown (dropped s l) o q
      from (fo, fq, (ho, hq, t)) = (ho, hq, subst₂ (λ a b. (a < no_label) × (b < no_label) × (a ≡ b)) (sym (dropped_other o ho fo)) (sym (dropped_other q hq fq)) t)

-- ---- reading a code off a slot
-- THEOREM: where all A settings of slot s have labels, the code on that slot says what the state shows there
pub code_says : (l : List ℕ) (s A : ℕ) → A ≤ max_settings → s * max_settings + A ≤ length l → ((a : ℕ) → a < A → label_of l (s, a) < no_label)
    → Says A (code_on s A l) (λ a b. Eqv (Shown l) (s, a) (s, b))
code_says l s A few h labelled =
    let n : length (part (s * max_settings) A l) ≡ A = length_part (s * max_settings) A l h in
    let t : Says A (code_on s A l) (λ a b. get_or (part (s * max_settings) A l) a 0 ≡ get_or (part (s * max_settings) A l) b 0) = rw n at (says_canon (part (s * max_settings) A l) (rw n few)) in
    let at : (a : ℕ) → a < A → get_or (part (s * max_settings) A l) a 0 ≡ label_of l (s, a) = λ a k. get_d_part (s * max_settings) A l a 0 k ∙ get_d_any l (s * max_settings + a) 0 no_label (omega arith) in
    says_map t (λ a b ha hb. (
      λ e. fwd done (omega arith, omega arith, (labelled a ha, labelled b hb, sym (at a ha) ∙ e ∙ at b hb)),
      λ c. at a ha ∙ keeps (label_of l) (λ o q r. r.2.2) {x = (s, a)} {y = (s, b)} c ∙ sym (at b hb),
    ))
