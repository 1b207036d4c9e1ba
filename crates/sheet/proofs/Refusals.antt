-- From what the reader finds to what is due by the table.
use mathlib.Core.Path.{◌≡◌, refl, sym, subst}
use mathlib.Core.Logic.{◌⊎◌, inl, inr}
use mathlib.Core.List.{List, [], ◌∷◌}
use Prim.Native.Nat.{ℕ, ◌≤◌, ◌<◌}
use native.Mathlib.Decide.{dec_lt}
use native.Mathlib.Omega.{arith}
use lib.ListN.{length}
use borrow.Author.Tests.{lt-ltb, le-ltb}
use Rattle.lists.specs.Refusals.{accepted, refused, Sooner}
use Rattle.chains.specs.Limits.{max_nodes}
use Rattle.chains.specs.Grammar.{Grammar}
use Rattle.book.specs.Format.{grammar}
use Rattle.bookcheck.specs.Refusals as book
use Rattle.bookcheck.proofs.Rows.{row_of_book}
use Rattle.sheet.specs.Reading.{Node, Read, all_settings}
use Rattle.sheet.specs.Refusals.{Applies, of_book, bad_length, no_production, other_kind, ends_early, bytes_left, too_deep, turn, SheetDue}
use Rattle.sheet.specs.Stops.{Fault, unknown, unfit, deep, Stop}
use Rattle.sheet.specs.Trees.{Sound}
use Rattle.sheet.proofs.Reading.{Passed, read_once, passed, read_within}

-- a row of the sheet's table is the book's, the one of the length, or a fault met in reading
pub data Row (b l : List ℕ) (n p : ℕ) : Type 0 where
  books : book.Applies b n p → Row b l n p
  lengths : n ≡ 20 → p ≡ 0 → (length l ≡ 0) ⊎ (max_nodes < length l) → Row b l n p
  reads : (ds : List Node) → Read (grammar b) l p ds → Fault (grammar b) l p ds n → Row b l n p

pub row : {b l : List ℕ} {n p : ℕ} → Applies b l n p → Row b l n p
row (of_book a) = books a
row (bad_length h) = lengths refl refl h
row (no_production i ds r h q) = reads ds r (unknown (h, q))
row (other_kind i k v ds r h q) = reads ((k, v) ∷ ds) r (unfit (inr (h, q)))
row (ends_early d ds r) = reads (d ∷ ds) r (unfit (inl refl))
row (bytes_left i r h) = reads [] r (unfit h)
row (too_deep i k v ds r h q) = reads ((k, v) ∷ ds) r (deep (h, q))

pub fault_applies : {b l : List ℕ} {n p : ℕ} {ds : List Node} → Read (grammar b) l p ds → Fault (grammar b) l p ds n → Applies b l n p
fault_applies {p = p} {ds = ds} r (unknown u) = no_production p ds r u.0 u.1
fault_applies {p = p} {ds = []} r (unfit u) = bytes_left p r u
fault_applies {b} {l} {p = p} {ds = d ∷ ds} r (unfit (inl e)) = subst (Applies b l 22) e (ends_early d ds (subst (λ i. Read (grammar b) l i (d ∷ ds)) (sym e) r))
fault_applies {p = p} {ds = d ∷ ds} r (unfit (inr u)) = other_kind p d.0 d.1 ds r u.0 u.1
fault_applies {p = p} {ds = []} r (deep u) = absurd u
fault_applies {p = p} {ds = d ∷ ds} r (deep u) = too_deep p d.0 d.1 ds r u.0 u.1

-- ── numbers and turns ──
pub fault_high : {G : Grammar} {l : List ℕ} {i n : ℕ} {ds : List Node} → Fault G l i ds n → 20 < n
fault_high (unknown u) = omega arith
fault_high (unfit u) = omega arith
fault_high (deep u) = omega arith

pub fault_low : {G : Grammar} {l : List ℕ} {i n : ℕ} {ds : List Node} → Fault G l i ds n → n < 24
fault_low (unknown u) = omega arith
fault_low (unfit u) = omega arith
fault_low (deep u) = omega arith

-- below 21 turns go as in the book's table: by number, then by place
sooner_low : (m q n p : ℕ) → n < 21 → Sooner (turn (m, q)) (turn (n, p)) → Sooner (m ∷ q ∷ []) (n ∷ p ∷ [])
sooner_low m q n p h s = go (dec_lt m 21) (rw (lt-ltb n 21 h) at s)
  where
    go : Dec (m < 21) → Sooner (turn (m, q)) (n ∷ p ∷ n ∷ []) → Sooner (m ∷ q ∷ []) (n ∷ p ∷ [])
    go (yes k) s = low (rw (lt-ltb m 21 k) at s)
      where
        low : Sooner (m ∷ q ∷ m ∷ []) (n ∷ p ∷ n ∷ []) → Sooner (m ∷ q ∷ []) (n ∷ p ∷ [])
        low (inl x) = inl x
        low (inr (e, inl x)) = inr (e, inl x)
        low (inr (e, inr (f, inl x))) = inl x
        low (inr (e, inr (f, inr (g, x)))) = absurd x
    go (no k) s = high (rw (le-ltb m 21 (omega arith)) at s)
      where
        high : Sooner (21 ∷ q ∷ m ∷ []) (n ∷ p ∷ n ∷ []) → Sooner (m ∷ q ∷ []) (n ∷ p ∷ [])
        high (inl x) = absurd (omega arith)
        high (inr (e, x)) = absurd (omega arith)

sooner_most : (m q n p : ℕ) → Sooner (m ∷ q ∷ []) (n ∷ p ∷ []) → m ≤ n
sooner_most m q n p (inl x) = omega arith
sooner_most m q n p (inr (e, x)) = omega arith

-- from 21 on they go by place, then by number
sooner_high : (m q n p : ℕ) → 20 < m → 20 < n → Sooner (turn (m, q)) (turn (n, p)) → (q < p) ⊎ ((q ≡ p) × (m < n))
sooner_high m q n p h k s = go (rw (le-ltb m 21 h, le-ltb n 21 k) at s)
  where
    go : Sooner (21 ∷ q ∷ m ∷ []) (21 ∷ p ∷ n ∷ []) → (q < p) ⊎ ((q ≡ p) × (m < n))
    go (inl x) = absurd (omega arith)
    go (inr (e, inl x)) = inl x
    go (inr (e, inr (f, inl x))) = inr (f, x)
    go (inr (e, inr (f, inr (g, x)))) = absurd x

-- ── what is due ──
-- a byte that stood where it was due is no fault
fitting : {G : Grammar} {l : List ℕ} {i n : ℕ} (t : Passed G l i) → Fault G l i ((t.kind, t.level) ∷ t.rest) n → ⊥
fitting t (unknown u) = let h = t.heads.0 in omega arith
fitting t (unfit (inl e)) = omega arith
fitting t (unfit (inr u)) = u.1 t.heads.1
fitting t (deep u) = omega arith

faultless : {G : Grammar} {l : List ℕ} {i n : ℕ} {ds : List Node} → Passed G l i → Read G l i ds → Fault G l i ds n → ⊥
faultless {G} {l} {i} {n} {ds} t r f = fitting t (subst (λ (es : List Node). Fault G l i es n) (read_once r t.was_due) f)

-- at the end, with nothing due, there is no fault
ended : {G : Grammar} {l : List ℕ} {i n : ℕ} → length l ≤ i → Fault G l i [] n → ⊥
ended h (unknown u) = omega arith
ended h (unfit u) = omega arith
ended h (deep u) = u

-- refusals 1 to 8 come before all that the sheet can give
pub book_refused : {b : List ℕ} (l : List ℕ) {n p : ℕ} → book.BookDue b (refused n p) → SheetDue b l (refused n p)
book_refused {b} l {n} {p} ((m, q), en, ep, (a, first)) = ((m, q), en, ep, (of_book a, λ j s r. before j (sooner_low j.0 j.1 m q (omega (arith, row_of_book a)) s) (row r)))
  where
    before : (j : ℕ × ℕ) → Sooner (j.0 ∷ j.1 ∷ []) (m ∷ q ∷ []) → Row b l j.0 j.1 → ⊥
    before j s (books r) = first j s r
    before j s (lengths x y h) = omega (arith, sooner_most j.0 j.1 m q s, row_of_book a)
    before j s (reads ds r f) = omega (arith, sooner_most j.0 j.1 m q s, row_of_book a, fault_high f)

right_length : (l : List ℕ) → 0 < length l → length l ≤ max_nodes → (length l ≡ 0) ⊎ (max_nodes < length l) → ⊥
right_length l some few (inl h) = omega arith
right_length l some few (inr h) = omega arith

module _ {b l : List ℕ} (sound : Sound b) where
  pub length_refused : (length l ≡ 0) ⊎ (max_nodes < length l) → SheetDue b l (refused 20 0)
  length_refused h = ((20, 0), refl, refl, (bad_length h, λ j s r. before j (sooner_low j.0 j.1 20 0 (omega arith) s) (row r)))
    where
      before : (j : ℕ × ℕ) → Sooner (j.0 ∷ j.1 ∷ []) (20 ∷ 0 ∷ []) → Row b l j.0 j.1 → ⊥
      before j s (books r) = sound j r
      before j (inl s) (lengths x y k) = omega arith
      before j (inr (e, inl s)) (lengths x y k) = omega arith
      before j (inr (e, inr (f, s))) (lengths x y k) = s
      before j s (reads ds r f) = omega (arith, sooner_most j.0 j.1 20 0 s, fault_high f)

  module _ (some : 0 < length l) (few : length l ≤ max_nodes) where
    pub stop_refused : {n p : ℕ} → Stop (grammar b) l n p → SheetDue b l (refused n p)
    stop_refused {n} {p} t = ((n, p), refl, refl, (fault_applies t.was_due t.fault, λ j s r. before j s (row r)))
      where
        here : (j : ℕ × ℕ) (ds : List Node) → Read (grammar b) l j.1 ds → Fault (grammar b) l j.1 ds j.0 → (j.1 < p) ⊎ ((j.1 ≡ p) × (j.0 < n)) → ⊥
        here j ds r f (inl h) = faultless (passed t.was_due h) r f
        here j ds r f (inr (e, h)) =
            let r' : Read (grammar b) l p ds = subst (λ i. Read (grammar b) l i ds) e r in
            let f' : Fault (grammar b) l p ds j.0 = subst (λ i. Fault (grammar b) l i ds j.0) e f in
            t.lowest j.0 h (subst (λ (es : List Node). Fault (grammar b) l p es j.0) (read_once r' t.was_due) f')

        before : (j : ℕ × ℕ) → Sooner (turn j) (turn (n, p)) → Row b l j.0 j.1 → ⊥
        before j s (books r) = sound j r
        before j s (lengths x y k) = right_length l some few k
        before j s (reads ds r f) = here j ds r f (sooner_high j.0 j.1 n p (fault_high f) (fault_high t.fault) s)

    -- a sheet that is read to its end, with nothing due after it, is accepted
    pub read_accepted : Read (grammar b) l (length l) [] → SheetDue b l (accepted (length l ∷ all_settings (grammar b) l ∷ []))
    read_accepted t = (refl, λ j r. none j (row r))
      where
        at_end : (i n : ℕ) (ds : List Node) → Read (grammar b) l i ds → Fault (grammar b) l i ds n → Dec (i < length l) → ⊥
        at_end i n ds r f (yes h) = faultless (passed t h) r f
        at_end i n ds r f (no h) =
            let e : i ≡ length l = omega (arith, read_within r) in
            let r' : Read (grammar b) l (length l) ds = subst (λ i. Read (grammar b) l i ds) e r in
            ended (omega arith) (subst (λ (es : List Node). Fault (grammar b) l i es n) (read_once r' t) f)

        none : (j : ℕ × ℕ) → Row b l j.0 j.1 → ⊥
        none j (books r) = sound j r
        none j (lengths x y k) = right_length l some few k
        none j (reads ds r f) = at_end j.1 j.0 ds r f (dec_lt j.1 (length l))
