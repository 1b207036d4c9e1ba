-- The rows of the admission's table and their turns.
use mathlib.Core.Path.{◌≡◌, refl}
use mathlib.Core.Logic.{inl, inr}
use mathlib.Core.List.{List, [], ◌∷◌}
use Prim.Native.Nat.{ℕ, ◌≤◌, ◌<◌}
use native.Mathlib.Decide.{dec_lt}
use native.Mathlib.Omega.{arith}
use lib.Dec.{ltb}
use borrow.Author.Tests.{lt-ltb, le-ltb}
use Rattle.lists.specs.Pick.{pick}
use Rattle.lists.specs.Refusals.{Sooner}
use Rattle.bookcheck.proofs.Rows.{row_of_book}
use Rattle.sheet.specs.Refusals as sheet
use Rattle.sheet.proofs.Refusals as sheet_rows
use Rattle.admission.specs.declared.Lengths.{Lengths}
use Rattle.admission.specs.Refusals.{ShortCounts, ShortRoom, Applies, of_sheet, short_counts, short_room, turn}

-- a row is the sheet's, or one of the two about lengths
pub data Row (b l : List ℕ) (m : Lengths) (n p : ℕ) : Type 0 where
  sheets : sheet.Applies b l n p → Row b l m n p
  counts : n ≡ 9 → p ≡ 0 → ShortCounts b m.plausible_counts m.feasible_counts → Row b l m n p
  rooms : n ≡ 24 → p ≡ 0 → ShortRoom b l m.nodes m.groups → Row b l m n p

pub row : {b l : List ℕ} {m : Lengths} {n p : ℕ} → Applies b l m n p → Row b l m n p
row (of_sheet a) = sheets a
row (short_counts h) = counts refl refl h
row (short_room h) = rooms refl refl h

-- ── numbers ──
pub sheet_number : {b l : List ℕ} {n p : ℕ} → sheet.Applies b l n p → n < 24
sheet_number {b} {l} {n} {p} a = go (sheet_rows.row a)
  where
    go : sheet_rows.Row b l n p → n < 24
    go (sheet_rows.books x) = omega (arith, row_of_book x)
    go (sheet_rows.lengths e f x) = omega arith
    go (sheet_rows.reads ds r x) = sheet_rows.fault_low x

pub row_number : {b l : List ℕ} {m : Lengths} {n p : ℕ} → Applies b l m n p → n < 25
row_number (of_sheet a) = omega (arith, sheet_number a)
row_number (short_counts h) = omega arith
row_number (short_room h) = omega arith

-- ── turns ──
-- what comes first in the turn of number n
abbrev pub key : ℕ → ℕ
key n = pick (ltb n 21) n (pick (ltb n 24) 21 n)

key_low : (n : ℕ) → n < 21 → key n ≡ n
key_low n h = rw (lt-ltb n 21 h)

key_mid : (n : ℕ) → 21 ≤ n → n < 24 → key n ≡ 21
key_mid n h k = rw (le-ltb n 21 h, lt-ltb n 24 k)

key_high : (n : ℕ) → 24 ≤ n → key n ≡ n
key_high n h = rw (le-ltb n 21 (omega arith), le-ltb n 24 h)

key_sheet : (n : ℕ) → n < 24 → key n ≡ pick (ltb n 21) n 21
key_sheet n h = rw (lt-ltb n 24 h)

pub key_most : (n k : ℕ) → n ≤ k → 21 ≤ k → key n ≤ k
key_most n k h l = go (dec_lt n 21) (dec_lt n 24)
  where
    go : Dec (n < 21) → Dec (n < 24) → key n ≤ k
    go (yes x) d = omega (arith, key_low n x)
    go (no x) (yes y) = omega (arith, key_mid n (omega arith) y)
    go (no x) (no y) = omega (arith, key_high n (omega arith))

sooner_key : (m q n p : ℕ) → Sooner (turn (m, q)) (turn (n, p)) → key m ≤ key n
sooner_key m q n p (inl x) = omega arith
sooner_key m q n p (inr (e, x)) = omega arith

-- nothing sooner than a row below 9 is 9, and nothing sooner than one below 24 is 24
pub sooner_nine : (q n p : ℕ) → n < 9 → Sooner (turn (9, q)) (turn (n, p)) → ⊥
sooner_nine q n p h x = omega (arith, sooner_key 9 q n p x, key_low n (omega arith))

pub sooner_room : (q n p : ℕ) → n < 24 → Sooner (turn (24, q)) (turn (n, p)) → ⊥
sooner_room q n p h x = omega (arith, sooner_key 24 q n p x, key_most n 23 (omega arith) (omega arith))

-- what is sooner than 9, at 0, has a number below 9
pub before_nine : (m q : ℕ) → Sooner (turn (m, q)) (turn (9, 0)) → m < 9
before_nine m q x = go x (dec_lt m 21) (dec_lt m 24)
  where
    go : Sooner (key m ∷ q ∷ m ∷ []) (9 ∷ 0 ∷ 9 ∷ []) → Dec (m < 21) → Dec (m < 24) → m < 9
    go (inl y) (yes z) d = omega (arith, key_low m z)
    go (inl y) (no z) (yes d) = absurd (omega (arith, key_mid m (omega arith) d))
    go (inl y) (no z) (no d) = absurd (omega (arith, key_high m (omega arith)))
    go (inr (e, inl y)) z d = absurd (omega arith)
    go (inr (e, inr (f, inl y))) z d = y
    go (inr (e, inr (f, inr (g, y)))) z d = absurd y

-- what is sooner than 24, at 0, has a number below 24
pub before_room : (m q : ℕ) → Sooner (turn (m, q)) (turn (24, 0)) → m < 24
before_room m q x = go x (dec_lt m 24)
  where
    go : Sooner (key m ∷ q ∷ m ∷ []) (24 ∷ 0 ∷ 24 ∷ []) → Dec (m < 24) → m < 24
    go y (yes z) = z
    go (inl y) (no z) = absurd (omega (arith, key_high m (omega arith)))
    go (inr (e, inl y)) (no z) = absurd (omega arith)
    go (inr (e, inr (f, inl y))) (no z) = y
    go (inr (e, inr (f, inr (g, y)))) (no z) = absurd y

-- two rows of the sheet: their turns are as in the sheet's own table
pub sooner_sheet : (m q n p : ℕ) → m < 24 → n < 24 → Sooner (turn (m, q)) (turn (n, p)) → Sooner (sheet.turn (m, q)) (sheet.turn (n, p))
sooner_sheet m q n p h k x = rw (key_sheet m h, key_sheet n k) at x

-- in that table a row below 9 comes before one from 9 on
pub sooner_book : (m q n p : ℕ) → m < 9 → 9 ≤ n → Sooner (sheet.turn (m, q)) (sheet.turn (n, p))
sooner_book m q n p h k = inl (rw (lt-ltb m 21 (omega arith)) (go (dec_lt n 21)))
  where
    go : Dec (n < 21) → m < pick (ltb n 21) n 21
    go (yes x) = rw (lt-ltb n 21 x) (omega arith)
    go (no x) = rw (le-ltb n 21 (omega arith)) (omega arith)
