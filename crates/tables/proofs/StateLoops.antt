-- The loops over a state: what a turn of each does to what its definition has come to.
use mathlib.Core.Path.{◌≡◌, refl, sym, ap, ap₂, ◌∙◌}
use mathlib.Core.Logic.{inl, inr}
use mathlib.Core.Bool.{Bool, true, false}
use mathlib.Core.List.{List, [], ◌∷◌, ◌++◌, append_assoc}
use Prim.Native.Nat.{ℕ, zero, suc, ◌+◌, ◌-◌, ◌*◌, ◌/◌, ◌%◌, ◌^◌, ◌≤◌, ◌<◌}
use native.Mathlib.Nat.{add_assoc, pow-suc}
use native.Mathlib.Numerals.{add-one}
use native.Mathlib.Omega.{arith}
use native.Mathlib.Decide.{dec_lt}
use borrow.Author.Tests.{eqb-true}
use borrow.Rule.Slice.PartMut.{put_mid, mid_of}
use lib.Dec.{eqb, ltb}
use lib.Pow.{pow-add}
use lib.ListN.{length, get_or, set, take, drop, drop_of_length-le, replicate, length-set, length-replicate, get_or-replicate}
use lib.Seq.{take_all, drop-cons, drop-drop}
use Rattle.std.specs.Prelude.{Option, Some, None, MatchOption}
use Rattle.std.specs.Option.{unwrap_or}
use Rattle.std.proofs.lemmas.List.{take_more_set, get_or_past}
use Rattle.lists.specs.Pick.{pick}
use Rattle.lists.specs.Sought.{Least}
use Rattle.lists.proofs.Sought.{least_once}
use Rattle.lists.proofs.Parts.{length_part, get_d_part}
use Rattle.chains.specs.Limits.{max_settings, max_kids}
use Rattle.chains.specs.Grouping.{label, unpack}
use Rattle.chains.specs.Labels.{swap, relabel, join_at, joins, index}
use Rattle.chains.specs.Labels as labelling
use Rattle.chains.specs.State.{numbers, pairs_from, code_pairs, dropped}
use Rattle.chains.proofs.Labels.{length_join_at, length_labels, labels_at}
use Rattle.chains.proofs.Appearance.{index_at, index_first}
use Rattle.chains.proofs.Codes.{length_unpack, unpack_at}
use Rattle.chains.proofs.State.{get_d_any}
use Rattle.book.specs.Format.{after_kids, pairs_at, bytes_at, ties_of}
use Rattle.book.specs.Reading.{to_at, from_at}
use Rattle.ranks.specs.Entries.{labels, none}
use Rattle.tables.specs.State.{Low, State, spot, Readable, width_in, own, apart, based}

-- ---- joining along pairs
swap_same : (a x : ℕ) → swap a a x ≡ x
swap_same a x = go (eqb x a) refl
  where
    go : (t : Bool) → eqb x a ≡ t → pick t a x ≡ x
    go true e = sym (eqb-true _ _ e)
    go false e = refl

relabel_same : (a : ℕ) (l : List ℕ) → relabel a a l ≡ l
unfolding relabel
relabel_same a [] = refl
relabel_same a (x ∷ l) = ap₂ ◌∷◌ (swap_same a x) (relabel_same a l)

-- what stands in one group already
pub join_same : (l : List ℕ) (i j : ℕ) → get_or l i 0 ≡ get_or l j 0 → join_at l i j ≡ l
join_same l i j e = rw e (relabel_same (get_or l j 0) l)

-- the labels are as low as they were
relabel_low : (a b : ℕ) (l : List ℕ) (o : ℕ) → Low a → Low (get_or l o none) → Low (get_or (relabel a b l) o none)
unfolding relabel
relabel_low a b [] o h k = k
relabel_low a b (x ∷ l) zero h k = one (eqb x b)
  where
    one : (t : Bool) → Low (pick t a x)
    one true = h
    one false = k
relabel_low a b (x ∷ l) (suc o) h k = relabel_low a b l o h k

pub join_state : {l l' : List ℕ} (i j : ℕ) → State l → i < labels → l' ≡ join_at l i j → State l'
join_state {l} i j h b e =
    let a : Low (get_or l i 0) = rw (get_d_any l i 0 none (omega (arith, h.long))) (h.low i) in
    rw e (record { long = length_join_at l i j ∙ h.long; low = λ o. relabel_low (get_or l i 0) (get_or l j 0) l o a (h.low o) })

-- ---- every occurrence by itself
pub labels_snoc : (f : ℕ → ℕ) (k n : ℕ) → labelling.labels_by f k (suc n) ≡ labelling.labels_by f k n ++ f (k + n) ∷ []
unfolding labelling.labels_by
labels_snoc f k zero = ap (λ (z : ℕ). f z ∷ []) (omega arith)
labels_snoc f k (suc n) =
    let e : suc k + n ≡ k + suc n = omega arith in
    ap (λ (l : List ℕ). f k ∷ l) (labels_snoc f (suc k) n ∙ ap (λ (z : ℕ). labelling.labels_by f (suc k) n ++ f z ∷ []) e)

-- the first o places have what f gives
pub record Laying (f : ℕ → ℕ) (s : List ℕ) (o : ℕ) : Type 0 where
  pub long : length s ≡ labels
  pub held : take o s ≡ labelling.labels_by f 0 o

pub lay_begun : (f : ℕ → ℕ) (s : List ℕ) → length s ≡ labels → Laying f s 0
unfolding labelling.labels_by
lay_begun f s h = record { long = h; held = refl }

module _ {f : ℕ → ℕ} {s : List ℕ} {o : ℕ} (h : Laying f s o) where
  pub lay_turn : {x : ℕ} → o < labels → x ≡ f o → Laying f (set s o x) (o + 1)
  lay_turn {x} l e =
      let z : 0 + o ≡ o = omega arith in
      record {
        long = length-set s o x ∙ h.long;
        held = take_more_set s o x (omega (arith, h.long)) ∙ rw (h.held, e, add-one o) (sym (rw z at (labels_snoc f 0 o)));
      }

  pub lay_done : labels ≤ o → o ≤ labels → s ≡ labelling.labels_by f 0 labels
  lay_done l m =
      let e : o ≡ labels = omega arith in
      sym (take_all o s (omega (arith, h.long))) ∙ h.held ∙ ap (labelling.labels_by f 0) e

-- where all are in one group
pub zeros_state : State (replicate labels 0)
zeros_state = record { long = length-replicate {A = ℕ} labels 0; low = λ o. by_place o (dec_lt o labels) }
  where
    by_place : (o : ℕ) → Dec (o < labels) → Low (get_or (replicate labels 0) o none)
    by_place o (yes h) = inl (rw (get_or-replicate {A = ℕ} labels o 0 none h) (omega arith))
    by_place o (no h) = inr (get_or_past (replicate labels 0) o none (omega (arith, length-replicate {A = ℕ} labels 0)))

-- what has its own number or none is low
pub apart_low : (b : List ℕ) (at : ℕ) → State (apart b at)
apart_low b at = record { long = length_labels (own b at) 0 labels; low = λ o. by_place o (dec_lt o labels) }
  where
    one : (o : ℕ) (t : Bool) → o < labels → Low (pick t o none)
    one o true h = inl h
    one o false h = inr refl

    by_place : (o : ℕ) → Dec (o < labels) → Low (get_or (apart b at) o none)
    by_place o (yes h) =
        let e : 0 + o ≡ o = omega arith in
        rw (get_d_any (apart b at) o none 0 (omega (arith, length_labels (own b at) 0 labels)), labels_at (own b at) 0 labels o h, e) (one o (ltb (o % max_settings) (width_in b at (o / max_settings))) h)
    by_place o (no h) = inr (get_or_past (apart b at) o none (omega (arith, length_labels (own b at) 0 labels)))

-- ---- pairs joined so far
-- the i-th of the ties that bytes name
tie_next : (bs : List ℕ) (i : ℕ) → 2 * i + 1 < length bs
    → numbers (ties_of (drop (2 * i) bs)) ≡ (get_or bs (2 * i) 0, get_or bs (2 * i + 1) 0) ∷ numbers (ties_of (drop (2 * (i + 1)) bs))
unfolding ties_of
tie_next bs i h =
    let a : drop (2 * i) bs ≡ get_or bs (2 * i) 0 ∷ drop (suc (2 * i)) bs = drop-cons bs (2 * i) 0 (omega arith) in
    let b : drop (suc (2 * i)) bs ≡ get_or bs (suc (2 * i)) 0 ∷ drop (suc (suc (2 * i))) bs = drop-cons bs (suc (2 * i)) 0 (omega arith) in
    let one : 2 * i + 1 ≡ suc (2 * i) = omega arith in
    let two : 2 * (i + 1) ≡ suc (suc (2 * i)) = omega arith in
    rw (one, two, a, b) (ap₂ (λ x y. (x, y) ∷ numbers (ties_of (drop (suc (suc (2 * i))) bs))) (whole (get_or bs (2 * i) 0)) (whole (get_or bs (suc (2 * i)) 0)))
  where
    whole : (x : ℕ) → x / max_settings * max_settings + x % max_settings ≡ x
    whole x = omega arith

pub record Basing (b : List ℕ) (at : ℕ) (s : List ℕ) (i : ℕ) : Type 0 where
  pub held : joins s (numbers (ties_of (drop (2 * i) (bytes_at b at)))) ≡ based b at

pub base_begun : (b : List ℕ) (at : ℕ) (s : List ℕ) → s ≡ apart b at → Basing b at s 0
unfolding based
base_begun b at s e = record { held = ap (λ (l : List ℕ). joins l (numbers (ties_of (bytes_at b at)))) e }

module _ {b : List ℕ} {at : ℕ} {s : List ℕ} {i : ℕ} (h : Basing b at s i) (r : Readable b at) where
  bytes_long : length (bytes_at b at) ≡ 2 * pairs_at b at
  bytes_long = length_part (after_kids b at + 1) (2 * pairs_at b at) b r.room

  to_byte : i < pairs_at b at → get_or (bytes_at b at) (2 * i) 0 ≡ to_at b at i
  to_byte l = get_d_part (after_kids b at + 1) (2 * pairs_at b at) b (2 * i) 0 (omega arith)

  from_byte : i < pairs_at b at → get_or (bytes_at b at) (2 * i + 1) 0 ≡ from_at b at i
  from_byte l =
      get_d_part (after_kids b at + 1) (2 * pairs_at b at) b (2 * i + 1) 0 (omega arith)
      ∙ ap (λ (k : ℕ). get_or b k 0) (sym (add_assoc (after_kids b at + 1) (2 * i) 1))

  pub base_turn : (x y : ℕ) (s' : List ℕ) → i < pairs_at b at → x ≡ to_at b at i → y ≡ from_at b at i → s' ≡ join_at s x y → Basing b at s' (i + 1)
  unfolding joins
  base_turn x y s' l p q j =
      let bs = bytes_at b at in
      let rest = numbers (ties_of (drop (2 * (i + 1)) bs)) in
      let u : get_or bs (2 * i) 0 ≡ x = to_byte l ∙ sym p in
      let v : get_or bs (2 * i + 1) 0 ≡ y = from_byte l ∙ sym q in
      record {
        held = ap (λ (l : List ℕ). joins l rest) j ∙ ap₂ (λ a b. joins s ((a, b) ∷ rest)) (sym u) (sym v)
            ∙ ap (joins s) (sym (tie_next bs i (omega (arith, bytes_long)))) ∙ h.held;
      }

  pub base_done : pairs_at b at ≤ i → s ≡ based b at
  unfolding joins ties_of
  base_done l =
      let k : length (bytes_at b at) ≤ 2 * i = omega (arith, bytes_long) in
      let e : drop (2 * i) (bytes_at b at) ≡ [] = drop_of_length-le (bytes_at b at) k in
      sym (rw e) ∙ h.held

-- ---- a slot tied so far
pub record Tying (s₀ : List ℕ) (t a c : ℕ) (s : List ℕ) (x : ℕ) : Type 0 where
  pub held : joins s (pairs_from t a c x (a - x)) ≡ joins s₀ (code_pairs t a c)

-- of x's label, the first setting is where the label first stands in the code
leader : (a c x y : ℕ) → x < a → Least (λ k. label c k ≡ label c x) (x + 1) y → y ≡ index (label c x) (unpack a c)
leader a c x y l h = least_once (λ k. label c k ≡ label c x) (x + 1) (suc x) y (index (label c x) (unpack a c)) h found
  where
    n : length (unpack a c) ≡ a
    n = length_unpack a c

    low : index (label c x) (unpack a c) ≤ x
    low = index_first (label c x) (unpack a c) x (rw n l) (unpack_at a c x l)

    found : Least (λ k. label c k ≡ label c x) (suc x) (index (label c x) (unpack a c))
    found = record {
      below = omega (arith, low);
      has = sym (unpack_at a c (index (label c x) (unpack a c)) (omega (arith, low))) ∙ index_at (label c x) (unpack a c) (omega (arith, low, n));
      first = λ k b e. omega (arith, index_first (label c x) (unpack a c) k (omega (arith, low, n)) (unpack_at a c k (omega (arith, low)) ∙ e));
    }

module _ {s₀ : List ℕ} {t a c : ℕ} {s : List ℕ} {x : ℕ} (h : Tying s₀ t a c s x) where
  pub tie_turn : (y : ℕ) (s' : List ℕ) → x < a → Least (λ k. label c k ≡ label c x) (x + 1) y → s' ≡ join_at s (spot t y) (spot t x) → Tying s₀ t a c s' (x + 1)
  unfolding joins pairs_from
  tie_turn y s' l m j =
      let e : a - x ≡ suc (a - suc x) = omega arith in
      let g : joins s (pairs_from t a c x (suc (a - suc x))) ≡ joins s₀ (code_pairs t a c) = rw e at h.held in
      record {
        held = rw (add-one x, j, leader a c x y l m) g;
      }

  pub tie_done : a ≤ x → s ≡ joins s₀ (code_pairs t a c)
  unfolding joins pairs_from
  tie_done l =
      let e : a - x ≡ 0 = omega arith in
      rw e at h.held

-- ---- the search for a label
-- three bits a label
pub two_eight : (i : ℕ) → 2 ^ (3 * i) ≡ 8 ^ i
two_eight zero = refl
two_eight (suc i) =
    let e : 3 * suc i ≡ 3 * i + 3 = omega arith in
    rw (e, pow-suc 8 i) (pow-add 2 (3 * i) 3 ∙ ap (λ (y : ℕ). y * 8) (two_eight i))

-- the first setting before x that has its label, or x itself
pub alike_first : (c x v : ℕ) (r : Option ℕ) → v ≡ label c x
    → MatchOption r ((k : ℕ) → 0 ≤ k → k < x → label c k ≡ v → ⊥) (λ i. (0 ≤ i) × (i < x) × (label c i ≡ v) × ((k : ℕ) → 0 ≤ k → k < i → label c k ≡ v → ⊥))
    → Least (λ k. label c k ≡ label c x) (x + 1) (unwrap_or r x)
alike_first c x v None e f = record { below = omega arith; has = refl; first = λ k h q. f k (omega arith) h (q ∙ sym e) }
alike_first c x v (Some i) e (a, b, p, f) = record { below = omega arith; has = p ∙ e; first = λ k h q. f k (omega arith) h (q ∙ sym e) }

-- ---- labels that may be missing
pub low_label : {x : ℕ} → Low x → (x ≡ none → ⊥) → x < labels
low_label (inl h) n = h
low_label (inr e) n = absurd (n e)

-- ---- the places of a slot emptied
pub slot_emptied : {s : List ℕ} → State s → (t : ℕ) → t ≤ max_kids → (v : List ℕ)
    → v ≡ replicate (length (mid_of (t * max_settings) (t * max_settings + max_settings - t * max_settings) s)) none
    → put_mid (t * max_settings) (t * max_settings + max_settings - t * max_settings) s v ≡ dropped t s
slot_emptied {s} h t low v e =
    let k : t * max_settings + max_settings - t * max_settings ≡ max_settings = omega arith in
    let n : length (mid_of (t * max_settings) max_settings s) ≡ max_settings = length_part (t * max_settings) max_settings s (omega (arith, h.long)) in
    let w : v ≡ replicate max_settings none = e ∙ ap (λ (i : ℕ). replicate (length (mid_of (t * max_settings) i s)) none) k ∙ ap (λ (i : ℕ). replicate i none) n in
    rw (k, w) (simp (append_assoc, drop-drop))
