-- Labels numbered by first appearance with a table of their numbers: one turn for each label, and what the loops over a state and over a slot
-- come to.
use mathlib.Core.Path.{◌≡◌, refl, sym, ap, ap₂, ◌∙◌}
use mathlib.Core.Bool.{Bool, true, false}
use mathlib.Core.List.{List, [], ◌∷◌, ◌++◌, append-nil}
use Prim.Native.Nat.{ℕ, zero, suc, ◌+◌, ◌*◌, ◌%◌, ◌^◌, ◌≤◌, ◌<◌}
use native.Mathlib.Nat.{pow-suc, pow-le-pow_right, mod-eq_of_lt, mul-le-mul_right, mul_comm, mul_assoc, mul-add, mul-zero, add_comm, add_assoc, add-zero}
use native.Mathlib.Numerals.{add-one}
use native.Mathlib.Omega.{arith}
use borrow.Author.Tests.{eq-eqb, ne_eqb, lt-ltb, le-ltb}
use native.Mathlib.Decide.{dec_lt, ℕ_discrete}
use lib.Bits.{bit_or, or_shifted_r}
use lib.Dec.{eqb, ltb}
use lib.ListN.{length, get_or, set, take, drop, replicate, length-append, length-set, length-replicate, get_or-replicate, drop_of_length-le}
use lib.Seq.{get_or-set_same, get_or-set_other, take-suc-set, drop-set-lt, drop-cons, append_snoc, take_all}
use Rattle.lists.specs.Pick.{pick}
use Rattle.lists.specs.Part.{part}
use Rattle.lists.proofs.Parts.{length_part, get_d_part}
use Rattle.chains.specs.Limits.{max_settings, max_kids}
use Rattle.chains.specs.Grouping.{pack}
use Rattle.chains.specs.Labels.{index, add, labels_by, canon_from, canon}
use Rattle.chains.proofs.Appearance.{index_le}
use Rattle.chains.proofs.Labels.{length_labels}
use Rattle.chains.proofs.State.{get_d_any}
use Rattle.ranks.specs.Entries.{labels, none}
use Rattle.tables.specs.State.{Low, State, Whole, spot, tidy_from, tidied, numbered, Numbering}
use Rattle.tables.proofs.StateLoops.{two_eight, low_label, labels_snoc}

-- ---- where a label stands after others
-- x is not in s, and is sought on in t
index_past : (x : ℕ) (s t : List ℕ) → length s ≤ index x s → index x (s ++ t) ≡ length s + index x t
unfolding index
index_past x [] t h = omega arith
index_past x (y ∷ s) t h = go (eqb x y) (index_past x s t) h
  where
    go : (b : Bool) → (length s ≤ index x s → index x (s ++ t) ≡ length s + index x t) → suc (length s) ≤ pick b zero (suc (index x s))
        → pick b zero (suc (index x (s ++ t))) ≡ suc (length s) + index x t
    go true ih h = absurd (omega arith)
    go false ih h = let e = ih (omega arith) in omega arith

-- x is in s
index_within : (x : ℕ) (s t : List ℕ) → index x s < length s → index x (s ++ t) ≡ index x s
unfolding index
index_within x [] t h = absurd (omega arith)
index_within x (y ∷ s) t h = go (eqb x y) (index_within x s t) h
  where
    go : (b : Bool) → (index x s < length s → index x (s ++ t) ≡ index x s) → pick b zero (suc (index x s)) < suc (length s)
        → pick b zero (suc (index x (s ++ t))) ≡ pick b zero (suc (index x s))
    go true ih h = refl
    go false ih h = ap suc (ih (omega arith))

index_one : (x : ℕ) → index x (x ∷ []) ≡ 0
unfolding index
index_one x = rw (eq-eqb x x refl)

index_other : (x y : ℕ) → (y ≡ x → ⊥) → index y (x ∷ []) ≡ 1
unfolding index
index_other x y n = rw (ne_eqb y x n)

add_old : (x : ℕ) (s : List ℕ) → index x s < length s → add x s ≡ s
unfolding add
add_old x s h = rw (lt-ltb _ _ h)

add_new : (x : ℕ) (s : List ℕ) → length s ≤ index x s → add x s ≡ s ++ x ∷ []
unfolding add
add_new x s h = rw (le-ltb _ _ h)

-- ---- the numbers given
-- a number's place does not change where another one, or none, becomes yet another
index_set : (k : ℕ) (l : List ℕ) (x v : ℕ) → (get_or l x 0 ≡ k → ⊥) → (v ≡ k → ⊥) → index k (set l x v) ≡ index k l
unfolding index
index_set k [] x v n m = refl
index_set k (y ∷ l) zero v n m = rw (ne_eqb k v (λ e. m (sym e)), ne_eqb k y (λ e. n (sym e)))
index_set k (y ∷ l) (suc x) v n m = rw (index_set k l x v n m)

-- a number first stands where it is put, if it did not stand before
index_put : (v : ℕ) (l : List ℕ) (x : ℕ) → x < length l → ((y : ℕ) → y < length l → get_or l y 0 ≡ v → ⊥) → index v (set l x v) ≡ x
unfolding index
index_put v [] x h n = absurd (omega arith)
index_put v (y ∷ l) zero h n = rw (eq-eqb v v refl)
index_put v (y ∷ l) (suc x) h n = rw (ne_eqb v y (λ e. n 0 (omega arith) (sym e)), index_put v l x (omega arith) (λ z b. n (suc z) (omega arith)))

labels_same : (f g : ℕ → ℕ) (k n : ℕ) → ((i : ℕ) → i < k + n → f i ≡ g i) → labels_by f k n ≡ labels_by g k n
unfolding labels_by
labels_same f g k zero h = refl
labels_same f g k (suc n) h = ap₂ ◌∷◌ (h k (omega arith)) (labels_same f g (suc k) n (λ i b. h i (omega arith)))

-- there are as many labels as numbers
pub numbers_low : (t : List ℕ) (n : ℕ) {seen : List ℕ} → numbered t n ≡ seen → length seen < none → n < none
numbers_low t n e h = omega (arith, length_labels (λ k. index k t) 0 n, ap length e)

-- where nothing has a number
pub numbers_begun : Numbering (replicate labels none) 0
unfolding labels_by
numbers_begun = record {
  long = length-replicate {A = ℕ} labels none;
  has = λ x h k. absurd (omega arith);
  lacks = λ x h k. get_or-replicate {A = ℕ} labels x none 0 h;
}

-- the number of a label, and the numbers given with it
module _ {t : List ℕ} {n : ℕ} (h : Numbering t n) (x : ℕ) (low : x < labels) where
  count : length (numbered t n) ≡ n
  count = length_labels (λ k. index k t) 0 n

  -- THEOREM: a label that has a number has the one by first appearance
  pub number_old : (get_or t x 0 ≡ none → ⊥) → (get_or t x 0 ≡ index x (numbered t n)) × (numbered t n ≡ add x (numbered t n))
  number_old z = (h.has x low within, sym (add_old x (numbered t n) (omega (arith, count, within))))
    where
      within : index x (numbered t n) < n
      within = elim (dec_lt (index x (numbered t n)) n) [ yes k ↦ k | no k ↦ absurd (z (h.lacks x low (omega arith))) ]

  module _ (few : n < none) (e : get_or t x 0 ≡ none) where
    past : n ≤ index x (numbered t n)
    past = elim (dec_lt (index x (numbered t n)) n) [ yes k ↦ absurd (omega (arith, h.has x low k)) | no k ↦ omega arith ]

    unused : (y : ℕ) → y < length t → get_or t y 0 ≡ n → ⊥
    unused y b q = elim (dec_lt (index y (numbered t n)) n) [ yes k ↦ omega (arith, h.has y (omega (arith, h.long)) k) | no k ↦ omega (arith, h.lacks y (omega (arith, h.long)) (omega arith)) ]

    grown : numbered (set t x n) (n + 1) ≡ numbered t n ++ x ∷ []
    grown =
        let z : 0 + n ≡ n = omega arith in
        let u : labels_by (λ k. index k (set t x n)) 0 n ≡ numbered t n = labels_same (λ k. index k (set t x n)) (λ k. index k t) 0 n (λ k b. index_set k t x n (λ q. omega arith) (λ q. omega arith)) in
        let v : index n (set t x n) ≡ x = index_put n t x (omega (arith, h.long)) unused in
        rw (add-one, labels_snoc (λ k. index k (set t x n)) 0 n, u, z, v)

    grown_add : numbered (set t x n) (n + 1) ≡ add x (numbered t n)
    grown_add = grown ∙ sym (add_new x (numbered t n) (omega (arith, count, past)))

    -- THEOREM: a label that has none gets the next one, which is its number by first appearance
    pub number_new : (get_or (set t x n) x 0 ≡ index x (numbered t n)) × (numbered (set t x n) (n + 1) ≡ add x (numbered t n))
    number_new = (get_or-set_same t x n 0 (omega (arith, h.long)) ∙ omega (arith, index_le x (numbered t n), count, past), grown_add)

    at_x : index x (numbered t n ++ x ∷ []) ≡ n
    at_x = index_past x (numbered t n) (x ∷ []) (omega (arith, count, past)) ∙ omega (arith, index_one x, count)

    known : (y : ℕ) → y < labels → index y (numbered t n) < n → (get_or (set t x n) y 0 ≡ index y (numbered t n)) × (index y (numbered t n ++ x ∷ []) ≡ index y (numbered t n))
    known y l k =
        let ne : y ≡ x → ⊥ = λ q. omega (arith, past, ap (λ (z : ℕ). index z (numbered t n)) q) in
        (get_or-set_other t x y n 0 ne ∙ h.has y l k, index_within y (numbered t n) (x ∷ []) (omega (arith, count)))

    unknown : (y : ℕ) → y < labels → n ≤ index y (numbered t n) → (y ≡ x → ⊥) → (get_or (set t x n) y 0 ≡ none) × (index y (numbered t n ++ x ∷ []) ≡ n + 1)
    unknown y l k ne = (get_or-set_other t x y n 0 ne ∙ h.lacks y l k, index_past y (numbered t n) (x ∷ []) (omega (arith, count)) ∙ omega (arith, index_other x y ne, count))

    this : (y : ℕ) → y ≡ x → (get_or (set t x n) y 0 ≡ n) × (index y (numbered t n ++ x ∷ []) ≡ n)
    this y q = rw q (get_or-set_same t x n 0 (omega (arith, h.long)), at_x)

    has_after : (y : ℕ) → y < labels → Dec (index y (numbered t n) < n) → Dec (y ≡ x) → index y (numbered t n ++ x ∷ []) < n + 1
        → get_or (set t x n) y 0 ≡ index y (numbered t n ++ x ∷ [])
    has_after y l (yes k) d b = let e = known y l k in e.0 ∙ sym e.1
    has_after y l (no k) (yes q) b = let e = this y q in e.0 ∙ sym e.1
    has_after y l (no k) (no q) b = let e = unknown y l (omega arith) q in absurd (omega arith)

    lacks_after : (y : ℕ) → y < labels → Dec (index y (numbered t n) < n) → Dec (y ≡ x) → n + 1 ≤ index y (numbered t n ++ x ∷ []) → get_or (set t x n) y 0 ≡ none
    lacks_after y l (yes k) d b = let e = known y l k in absurd (omega arith)
    lacks_after y l (no k) (yes q) b = let e = this y q in absurd (omega arith)
    lacks_after y l (no k) (no q) b = (unknown y l (omega arith) q).0

    pub numbers_more : Numbering (set t x n) (n + 1)
    numbers_more = record {
      long = length-set t x n ∙ h.long;
      has = λ y l k. rw grown (has_after y l (dec_lt (index y (numbered t n)) n) (ℕ_discrete y x) (rw grown at k));
      lacks = λ y l k. lacks_after y l (dec_lt (index y (numbered t n)) n) (ℕ_discrete y x) (rw grown at k);
    }

-- one label more is at most one number more
pub add_long : (x : ℕ) (s : List ℕ) → length (add x s) ≤ length s + 1
unfolding add
add_long x s = go (ltb (index x s) (length s))
  where
    go : (b : Bool) → length (pick b s (s ++ x ∷ [])) ≤ length s + 1
    go true = omega arith
    go false = omega (arith, length-append s (x ∷ []))

-- ---- a state tidied in place, up to the place o
pub record Tidying (s₀ s seen : List ℕ) (o : ℕ) : Type 0 where
  pub few : length seen ≤ o
  pub long : length s ≡ labels
  pub low : (i : ℕ) → o ≤ i → i < labels → Low (get_or s i 0)
  pub held : take o s ++ tidy_from seen (drop o s) ≡ tidied s₀

-- the head of what is left has become k
placed : (l seen seen' : List ℕ) (i k : ℕ) → i < length l → tidy_from seen (get_or l i 0 ∷ drop (suc i) l) ≡ k ∷ tidy_from seen' (drop (suc i) l)
    → take (i + 1) (set l i k) ++ tidy_from seen' (drop (i + 1) (set l i k)) ≡ take i l ++ tidy_from seen (drop i l)
placed l seen seen' i k h e =
    rw (add-one, take-suc-set l i k h, drop-set-lt (suc i) l i k (omega arith), drop-cons l i 0 h, e) (append_snoc (take i l) k (tidy_from seen' (drop (suc i) l)))

tidy_none : (seen l : List ℕ) (x : ℕ) → x ≡ none → tidy_from seen (x ∷ l) ≡ x ∷ tidy_from seen l
unfolding tidy_from
tidy_none seen l x e = rw (eq-eqb x none e, e)

tidy_label : (seen l : List ℕ) (x : ℕ) → (x ≡ none → ⊥) → tidy_from seen (x ∷ l) ≡ index x seen ∷ tidy_from (add x seen) l
unfolding tidy_from
tidy_label seen l x e = rw (ne_eqb x none e)

module _ {s₀ s seen : List ℕ} {o : ℕ} (h : Tidying s₀ s seen o) (l : o < labels) where
  rest_low : (k i : ℕ) → o + 1 ≤ i → i < labels → Low (get_or (set s o k) i 0)
  rest_low k i a b = rw (get_or-set_other s o i k 0 (λ q. omega arith)) (h.low i (omega arith) b)

  -- no label stands there
  pub tidy_pass : get_or s o 0 ≡ none → Tidying s₀ (set s o (get_or s o 0)) seen (o + 1)
  tidy_pass e =
      let x = get_or s o 0 in
      record {
        few = omega (arith, h.few);
        long = length-set s o x ∙ h.long;
        low = rest_low x;
        held = placed s seen seen o x (omega (arith, h.long)) (tidy_none seen (drop (suc o) s) x e) ∙ h.held;
      }

  -- a label stands there, and becomes its number
  pub tidy_turn : (get_or s o 0 ≡ none → ⊥) → {k : ℕ} {seen' : List ℕ} → (k ≡ index (get_or s o 0) seen) × (seen' ≡ add (get_or s o 0) seen) → Tidying s₀ (set s o k) seen' (o + 1)
  tidy_turn n {k} {seen'} (p, q) =
      let x = get_or s o 0 in
      let e : tidy_from seen (x ∷ drop (suc o) s) ≡ k ∷ tidy_from seen' (drop (suc o) s) = rw (p, q) (tidy_label seen (drop (suc o) s) x n) in
      record {
        few = omega (arith, h.few, add_long x seen, ap length q);
        long = length-set s o k ∙ h.long;
        low = rest_low k;
        held = placed s seen seen' o k (omega (arith, h.long)) e ∙ h.held;
      }

pub tidy_done : {s₀ s seen : List ℕ} {o : ℕ} → Tidying s₀ s seen o → labels ≤ o → s ≡ tidied s₀
unfolding tidy_from
tidy_done {s₀} {s} {seen} {o} h l =
    let b : length s ≤ o = omega (arith, h.long) in
    sym (rw (take_all o s b, drop_of_length-le s b) (append-nil s)) ∙ h.held

-- a label put behind x others by shift and or
pub shifted_in : (c x k : ℕ) → x < max_settings → k < 8 → c < 8 ^ x
    → (bit_or c (k * 2 ^ (3 * x) % 4294967296) ≡ c + k * 8 ^ x) × (bit_or c (k * 2 ^ (3 * x) % 4294967296) < 8 ^ (x + 1))
shifted_in c x k hx hk hc =
    let p = 8 ^ x in
    let e : 2 ^ (3 * x) ≡ 8 ^ x = two_eight x in
    let m : k * 8 ^ x ≤ 7 * 8 ^ x = mul-le-mul_right (8 ^ x) (omega arith) in
    let s : 8 ^ (x + 1) ≡ 8 ^ x * 8 = ap (λ (z : ℕ). 8 ^ z) (add-one x) ∙ pow-suc 8 x in
    let j : x + 1 ≤ 8 = omega arith in
    let t : 8 ^ (x + 1) ≤ 8 ^ 8 = pow-le-pow_right (omega arith) j in
    let q : k * 2 ^ (3 * x) % 4294967296 ≡ k * 2 ^ (3 * x) = mod-eq_of_lt (omega (arith, ap (λ (z : ℕ). k * z) e)) in
    let u : bit_or c (k * 2 ^ (3 * x)) ≡ c + k * 2 ^ (3 * x) = or_shifted_r k (3 * x) c (omega arith) ∙ add_comm (k * 2 ^ (3 * x)) c in
    let r : bit_or c (k * 2 ^ (3 * x) % 4294967296) ≡ c + k * 8 ^ x = ap (bit_or c) q ∙ u ∙ ap (λ (z : ℕ). c + k * z) e in
    (r, omega arith)

-- ---- a slot's code, as far as its first x labels
pub record Viewing (l seen : List ℕ) (c x : ℕ) : Type 0 where
  pub few : length seen ≤ x
  pub small : c < 8 ^ x
  pub held : c + 8 ^ x * pack (canon_from seen (drop x l)) ≡ pack (canon l)

-- a label's weight, and that of the labels behind it
weigh : (p k m : ℕ) → k * p + p * 8 * m ≡ p * (m * 8 + k)
weigh p k m =
    ap (λ (z : ℕ). k * p + z) (mul_assoc p 8 m ∙ ap (λ (z : ℕ). p * z) (mul_comm 8 m)) ∙ add_comm (k * p) (p * (m * 8))
    ∙ ap (λ (z : ℕ). p * (m * 8) + z) (mul_comm k p) ∙ sym (mul-add p (m * 8) k)

canon_next : (seen l : List ℕ) (x : ℕ) → x < length l → pack (canon_from seen (drop x l)) ≡ pack (canon_from (add (get_or l x 0) seen) (drop (x + 1) l)) * 8 + index (get_or l x 0) seen
unfolding canon_from pack
canon_next seen l x h = rw (add-one, drop-cons l x 0 h)

module _ {l seen : List ℕ} {c x : ℕ} (h : Viewing l seen c x) (b : x < length l) (few : x < max_settings) where
  module _ {seen' : List ℕ} {k : ℕ} (p : (k ≡ index (get_or l x 0) seen) × (seen' ≡ add (get_or l x 0) seen)) where
    -- the number that a label gets fits three bits
    pub view_small : k < 8
    view_small = omega (arith, p.0, index_le (get_or l x 0) seen, h.few)

    pub view_turn : Viewing l seen' (bit_or c (k * 2 ^ (3 * x) % 4294967296)) (x + 1)
    view_turn =
        let y = get_or l x 0 in
        let m = pack (canon_from (add y seen) (drop (x + 1) l)) in
        let (u, v) = shifted_in c x k few view_small h.small in
        record {
          few = omega (arith, h.few, add_long y seen, ap length p.1);
          small = v;
          held = rw p.1 (ap (λ (z : ℕ). z + 8 ^ (x + 1) * m) u ∙ ap (λ (z : ℕ). c + k * 8 ^ x + z * m) (ap (λ (z : ℕ). 8 ^ z) (add-one x) ∙ pow-suc 8 x)
              ∙ add_assoc c (k * 8 ^ x) (8 ^ x * 8 * m) ∙ ap (λ (z : ℕ). c + z) (weigh (8 ^ x) k m)
              ∙ ap (λ (z : ℕ). c + 8 ^ x * (m * 8 + z)) p.0 ∙ ap (λ (z : ℕ). c + 8 ^ x * z) (sym (canon_next seen l x b)) ∙ h.held);
        }

pub view_done : {l seen : List ℕ} {c x : ℕ} → Viewing l seen c x → length l ≤ x → c ≡ pack (canon l)
unfolding canon_from pack
view_done {l} {seen} {c} {x} h b =
    let z : pack (canon_from seen (drop x l)) ≡ 0 = rw (drop_of_length-le l b) in
    sym (ap (λ (y : ℕ). c + 8 ^ x * y) z ∙ ap (λ (y : ℕ). c + y) (mul-zero (8 ^ x)) ∙ add-zero c) ∙ h.held

-- the labels of the first a settings of slot u in a state, which are all there
module _ {s : List ℕ} (st : State s) {u a : ℕ} (hu : u ≤ max_kids) (ha : a ≤ max_settings) where
  pub slot_long : length (part (u * max_settings) a s) ≡ a
  slot_long = length_part (u * max_settings) a s (omega (arith, st.long))

  pub slot_low : Whole s u a → (x : ℕ) → x < a → get_or (part (u * max_settings) a s) x 0 < labels
  slot_low w x h =
      rw (get_d_part (u * max_settings) a s x 0 h, get_d_any s (spot u x) 0 none (omega (arith, st.long))) (low_label (st.low (spot u x)) (λ e. let p = w x h in omega arith))
