-- Numbers as sets: o is in the set where bit o is 1. A set is its bits, and is made bit by bit.
use mathlib.Core.Path.{◌≡◌, refl, sym, ap, ◌∙◌}
use mathlib.Core.Logic.{◌↔◌}
use Prim.Native.Nat.{ℕ, zero, suc, ◌+◌, ◌*◌, ◌%◌, ◌^◌, ◌<◌}
use native.Mathlib.Nat.{pow-suc, mod-eq_of_lt, sub_self}
use native.Mathlib.Numerals.{add-one}
use native.Mathlib.Decide.{dec_lt}
use native.Mathlib.Omega.{arith}
use lib.Bits.{bit_or, or_shifted_r}
use lib.Pow.{shl_exact}
use Rattle.std.specs.Int.{bit_at}
use Rattle.std.proofs.lemmas.Nat.Bits.{bit_at-lt, bit_at_lowest, bit_at_above, bit_at_cat_low, bit_at_cat_high, same_from_bits}
use Rattle.ranks.proofs.Digits.{digit_below}
use Rattle.blocks.specs.Blocks.{set_bits, In}

-- a bit is 0 or 1, so that it is enough to know where it is 1
bit_same : (a b : ℕ) → a < 2 → b < 2 → (a ≡ 1 → b ≡ 1) → (b ≡ 1 → a ≡ 1) → a ≡ b
bit_same zero zero h k f g = refl
bit_same zero (suc b) h k f g = omega (arith, g (omega arith))
bit_same (suc a) b h k f g = omega (arith, f (omega arith))

-- THEOREM: a set is its bits
pub set_once : (P : ℕ → Type 0) (s t : ℕ) → ((o : ℕ) → In s o ↔ P o) → ((o : ℕ) → In t o ↔ P o) → s ≡ t
set_once P s t f g =
    same_from_bits s t (λ o. bit_same (bit_at s o) (bit_at t o) (bit_at-lt s o) (bit_at-lt t o) (λ h. (g o).1 ((f o).0 h)) (λ h. (f o).1 ((g o).0 h)))

-- ── a set made bit by bit: of the numbers below n it has those with P ──
pub record Marked (P : ℕ → Type 0) (n s : ℕ) : Type 0 where
  pub small : s < 2 ^ n
  pub exactly : (o : ℕ) → o < n → In s o ↔ P o

pub marked_in : {P : ℕ → Type 0} {n s : ℕ} → Marked P n s → (o : ℕ) → In s o → (o < n) × P o
marked_in {P} {n} {s} m o h = go (dec_lt o n)
  where
    go : Dec (o < n) → (o < n) × P o
    go (yes l) = (l, (m.exactly o l).0 h)
    go (no l) = absurd (omega (arith, bit_at_above s n o m.small (omega arith)))

-- the n-th bit b is put in by a shift and an or
pub marked_more : {P : ℕ → Type 0} {n s : ℕ} → Marked P n s → (b : ℕ) → n < set_bits → b < 2 → (b ≡ 1) ↔ P n
    → Marked P (n + 1) (bit_or s (b * 2 ^ n % 2 ^ set_bits))
marked_more {P} {n} {s} m b l h w =
    let e : bit_or s (b * 2 ^ n % 2 ^ set_bits) ≡ b * 2 ^ n + s = ap (bit_or s) (shl_exact 1 n set_bits h (omega arith)) ∙ or_shifted_r b n s m.small in
    rw (e, add-one n) (record { small = omega (arith, digit_below b s h m.small, pow-suc 2 n); exactly = λ o k. go o k (dec_lt o n) })
  where
    top_bit : bit_at (b * 2 ^ n + s) n ≡ b
    top_bit = bit_at_cat_high b n s n m.small (omega arith) ∙ ap (bit_at b) (sub_self n) ∙ bit_at_lowest b ∙ mod-eq_of_lt h

    top : In (b * 2 ^ n + s) n ↔ P n
    top = (λ e. w.0 (sym top_bit ∙ e), λ p. top_bit ∙ w.1 p)

    go : (o : ℕ) → o < suc n → Dec (o < n) → In (b * 2 ^ n + s) o ↔ P o
    go o k (yes c) = (λ e. (m.exactly o c).0 (sym (bit_at_cat_low b n s o c) ∙ e), λ p. bit_at_cat_low b n s o c ∙ (m.exactly o c).1 p)
    go o k (no c) = let e : o ≡ n = omega arith in rw e top
