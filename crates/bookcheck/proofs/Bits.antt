-- Bits of a mask, by quotients.
use mathlib.Core.Path.{◌≡◌, ap, sym, ◌∙◌}
use mathlib.Core.Bool.{true}
use Prim.Native.Nat.{ℕ, zero, suc, ◌+◌, ◌-◌, ◌/◌, ◌%◌, ◌^◌, ◌≤◌, ◌<◌}
use native.Mathlib.Decide.{ℕ_discrete}
use native.Mathlib.Nat.{zero-div, pow-succ'}
use native.Mathlib.Omega.{arith}
use lib.Dec.{eqb}
use lib.Pow.{shr-shr, shr_le}
use borrow.Author.Tests.{eq-eqb, eqb-true}
use Rattle.book.specs.Format.{Bit}

-- a bit that is set
pub bit_set : (x i : ℕ) → Bit x i ≡ true → x / 2 ^ i % 2 ≡ 1
bit_set x i e = eqb-true (x / 2 ^ i % 2) 1 e

-- a number that is not 0 has a bit
pub some_bit : (w x : ℕ) → x < 2 ^ w → 0 < x → (j : ℕ) × (Bit x j ≡ true)
some_bit zero x l h = absurd (omega arith)
some_bit (suc w) x l h = go (ℕ_discrete (x % 2) 1) (λ k. some_bit w (x / 2) (omega (arith, pow-succ' 2 w)) k)
  where
    go : Dec (x % 2 ≡ 1) → (0 < x / 2 → (j : ℕ) × (Bit (x / 2) j ≡ true)) → (j : ℕ) × (Bit x j ≡ true)
    go (yes e) up = (0, eq-eqb (x / 2 ^ 0 % 2) 1 (omega arith))
    go (no e) up =
        let (j, s) = up (omega arith) in
        (1 + j, ap (λ q. eqb (q % 2) 1) (sym (shr-shr x 1 j)) ∙ s)

-- bits from a on are what a shift by a leaves
pub bit_above : (w x a : ℕ) → x < 2 ^ w → 0 < x / 2 ^ a → (i : ℕ) × (a ≤ i) × (Bit x i ≡ true)
bit_above w x a l h =
    let (j, s) = some_bit w (x / 2 ^ a) (omega (arith, shr_le x a)) h in
    (a + j, omega arith, ap (λ q. eqb (q % 2) 1) (sym (shr-shr x a j)) ∙ s)

pub none_above : (x a i : ℕ) → x / 2 ^ a ≡ 0 → a ≤ i → Bit x i ≡ true → ⊥
none_above x a i z h e =
    let k : a + (i - a) ≡ i = omega arith in
    let q : x / 2 ^ a / 2 ^ (i - a) ≡ x / 2 ^ i = shr-shr x a (i - a) ∙ ap (λ n. x / 2 ^ n) k in
    let o : 0 / 2 ^ (i - a) ≡ x / 2 ^ i = ap (λ n. n / 2 ^ (i - a)) (sym z) ∙ q in
    omega (arith, bit_set x i e, zero-div (2 ^ (i - a)))
