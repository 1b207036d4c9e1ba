-- The fewest digits that hold a number are its decimals, and how long those are.
use Prim.Native.Nat.{ℕ, zero, suc, ◌-◌, ◌*◌, ◌/◌, ◌%◌, ◌^◌, ◌≤◌, ◌<◌}
use mathlib.Core.Path.{◌≡◌, refl, sym, ap, subst}
use mathlib.Core.Bool.{Bool, true, false}
use mathlib.Core.List.{List, [], ◌∷◌, ◌++◌}
use native.Mathlib.Omega.{arith}
use native.Mathlib.Nat.{pow-suc, pow-le-pow_right}
use lib.Dec.{ltb}
use lib.ListN.{length, length-append}
use borrow.Author.Tests.{ltb-true, ltb-false}
use Rattle.lists.specs.Pick.{pick}
use Rattle.io.specs.Digits.{hex_digit_ascii, last_digits, IsDigitCount}
use Rattle.text.specs.Decimals.{spelt, decimals}

-- ten to any power but 0 is ten at least
tenfold : (k : ℕ) → 1 ≤ k → 10 ≤ 10 ^ k
tenfold zero h = absurd (omega arith)
tenfold (suc k) h =
    let some : 1 ≤ 10 ^ k = pow-le-pow_right {n = 10} (omega arith) {i = 0} {j = k} (omega arith) in
    omega (arith, pow-suc 10 k)

-- below ten one digit is enough
one_digit : (n k : ℕ) → n < 10 → IsDigitCount 10 1 n k → k ≡ 1
one_digit n zero h f = absurd (omega (arith, f.0))
one_digit n (suc zero) h f = refl
one_digit n (suc (suc k)) h f =
    let e : suc (suc k) - 1 ≡ suc k = omega arith in
    let many : 10 ^ suc k ≤ n = subst (λ (m : ℕ). 10 ^ m ≤ n) e (f.2 (omega arith)) in
    absurd (omega (arith, tenfold (suc k) (omega arith)))

-- from ten on the tenth has one digit fewer
tenth : (n k : ℕ) → 10 ≤ n → IsDigitCount 10 1 n (suc k) → IsDigitCount 10 1 (n / 10) k
tenth n zero h f =
    let below : n < 10 = f.1 in
    absurd (omega arith)
tenth n (suc zero) h f =
    let below : n < 100 = f.1 in
    (omega arith, omega arith, λ l. absurd (omega arith))
tenth n (suc (suc k)) h f =
    let e : suc (suc (suc k)) - 1 ≡ suc (suc k) = omega arith in
    let d : suc (suc k) - 1 ≡ suc k = omega arith in
    let below : n < 10 ^ suc (suc k) * 10 = subst (λ (m : ℕ). n < m) (pow-suc 10 (suc (suc k))) f.1 in
    let most : 10 ^ suc (suc k) ≤ n = subst (λ (m : ℕ). 10 ^ m ≤ n) e (f.2 (omega arith)) in
    let above : 10 ^ suc k * 10 ≤ n = subst (λ (m : ℕ). m ≤ n) (pow-suc 10 (suc k)) most in
    (omega arith, omega arith, λ l. subst (λ (m : ℕ). 10 ^ m ≤ n / 10) (sym d) (omega arith))

-- ── the fewest digits that hold n are its decimals ──
spelt_step : (f n k : ℕ) (t : Bool) → ltb n 10 ≡ t → ((j : ℕ) → n / 10 ≤ f → IsDigitCount 10 1 (n / 10) j → last_digits 10 j (n / 10) ≡ spelt f (n / 10)) → n ≤ suc f
    → IsDigitCount 10 1 n (suc k) → last_digits 10 (suc k) n ≡ pick t (hex_digit_ascii n ∷ []) (spelt f (n / 10) ++ hex_digit_ascii (n % 10) ∷ [])
spelt_step f n k true e ih h g =
    let low : n < 10 = ltb-true n 10 e in
    let last : n % 10 ≡ n = omega arith in
    let only : k ≡ 0 = omega (arith, one_digit n (suc k) low g) in
    subst (λ (j : ℕ). last_digits 10 j (n / 10) ++ hex_digit_ascii (n % 10) ∷ [] ≡ hex_digit_ascii n ∷ []) (sym only) (ap (λ (m : ℕ). hex_digit_ascii m ∷ []) last)
spelt_step f n k false e ih h g =
    let high : 10 ≤ n = ltb-false n 10 e in
    ap (λ (l : List ℕ). l ++ hex_digit_ascii (n % 10) ∷ []) (ih k (omega arith) (tenth n k high g))

spelt_digits : (f n k : ℕ) → n ≤ f → IsDigitCount 10 1 n k → last_digits 10 k n ≡ spelt f n
unfolding spelt
spelt_digits zero n k h g = subst (λ (j : ℕ). last_digits 10 j n ≡ hex_digit_ascii (n % 10) ∷ []) (sym (one_digit n k (omega arith) g)) refl
spelt_digits (suc f) n zero h g = absurd (omega (arith, g.0))
spelt_digits (suc f) n (suc k) h g = spelt_step f n k (ltb n 10) refl (λ j low few. spelt_digits f (n / 10) j low few) h g

pub digits_decimals : (n k : ℕ) → IsDigitCount 10 1 n k → last_digits 10 k n ≡ decimals n
digits_decimals n k g = spelt_digits n n k (omega arith) g

-- ── a number below ten to the k has no more than k digits ──
short_step : (f n k : ℕ) (t : Bool) → ltb n 10 ≡ t → ((j : ℕ) → 1 ≤ j → n / 10 < 10 ^ j → length (spelt f (n / 10)) ≤ j) → 1 ≤ k → n < 10 ^ k
    → length (pick t (hex_digit_ascii n ∷ []) (spelt f (n / 10) ++ hex_digit_ascii (n % 10) ∷ [])) ≤ k
short_step f n k true e ih h g = h
short_step f n zero false e ih h g = absurd (omega arith)
short_step f n (suc zero) false e ih h g =
    let below : n < 10 = g in
    absurd (omega (arith, ltb-false n 10 e))
short_step f n (suc (suc k)) false e ih h g =
    let below : n < 10 ^ suc k * 10 = subst (λ (m : ℕ). n < m) (pow-suc 10 (suc k)) g in
    let shorter : length (spelt f (n / 10)) ≤ suc k = ih (suc k) (omega arith) (omega arith) in
    rw length-append (omega arith)

spelt_short : (f n k : ℕ) → 1 ≤ k → n < 10 ^ k → length (spelt f n) ≤ k
unfolding spelt
spelt_short zero n k h g = h
spelt_short (suc f) n k h g = short_step f n k (ltb n 10) refl (λ j some low. spelt_short f (n / 10) j some low) h g

pub decimals_short : (n k : ℕ) → 1 ≤ k → n < 10 ^ k → length (decimals n) ≤ k
decimals_short n k h g = spelt_short n n k h g
