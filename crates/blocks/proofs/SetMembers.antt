-- The numbers in a set: how many they are, and the first of them.
use mathlib.Core.Path.{◌≡◌, refl, sym, ap, ◌∙◌}
use mathlib.Core.Logic.{◌⊎◌, inl, inr, ⊎_elim}
use mathlib.Core.Bool.{true, false}
use mathlib.Core.List.Memᴰ
use mathlib.Core.List.{List, [], ◌∷◌, Memᴰ}
use Prim.Native.Nat.{ℕ, zero, suc, ◌+◌, ◌/◌, ◌%◌, ◌^◌, ◌<◌}
use native.Mathlib.Nat.{mod-lt, pow-suc, add-zero, zero-add}
use native.Mathlib.Decide.{dec_lt}
use native.Mathlib.Omega.{arith}
use lib.ListN.{length}
use lib.Dec.{eqb}
use lib.Count.{ones, ones_step, under, count_trailing_zeros}
use Rattle.std.proofs.lemmas.Nat.Bits.{bit_at_lowest, bit_at-suc, bit_at_above}
use Rattle.lists.specs.Pick.{pick}
use Rattle.lists.specs.Rising.{Rising, none, single, step}
use Rattle.lists.specs.Sought.{Free, Least}
use Rattle.lists.proofs.Rising.{rising_once}
use Rattle.lists.proofs.Sought.{least_once, least_not_free}
use Rattle.blocks.specs.Blocks.{set_bits, In, Size, FirstIn}

-- ── members ──
-- those of the lowest n bits of s, the lowest of which stands for k
members_from : ℕ → ℕ → ℕ → List ℕ
members_from zero k s = []
members_from (suc n) k s = pick (eqb (s % 2) 1) (k ∷ members_from n (suc k) (s / 2)) (members_from n (suc k) (s / 2))

data Lowest (s : ℕ) : Type 0 where
  off : s % 2 ≡ 0 → eqb (s % 2) 1 ≡ false → Lowest s
  on : s % 2 ≡ 1 → eqb (s % 2) 1 ≡ true → Lowest s

lowest : (s : ℕ) → Lowest s
lowest s = go (dec_lt (s % 2) 1)
  where
    go : Dec (s % 2 < 1) → Lowest s
    go (yes h) = let e : s % 2 ≡ 0 = omega arith in off e (rw e)
    go (no h) = let e : s % 2 ≡ 1 = omega (arith, mod-lt s {m = 2} (omega arith)) in on e (rw e)

-- o is in the set, bit i of which stands for k + i
abbrev From : ℕ → ℕ → ℕ → ℕ → Type 0
From n k s o = (i : ℕ) × (i < n) × (o ≡ k + i) × In s i

members_to : (n k s o : ℕ) → Memᴰ o (members_from n k s) → From n k s o
unfolding members_from
members_to zero k s o m = absurd (Memᴰ.not-nil m)
members_to (suc n) k s o m = go (lowest s) (members_to n (suc k) (s / 2) o)
  where
    later : From n (suc k) (s / 2) o → From (suc n) k s o
    later (i, h, e, b) = (suc i, omega arith, omega arith, bit_at-suc s i ∙ b)

    go : Lowest s → (Memᴰ o (members_from n (suc k) (s / 2)) → From n (suc k) (s / 2) o) → From (suc n) k s o
    go (off e t) f = later (f (rw t at m))
    go (on e t) f = ⊎_elim (λ h. (0, omega arith, omega arith, bit_at_lowest s ∙ e)) (λ h. later (f h)) (Memᴰ.cases_cons (rw t at m))

members_of : (n k s i : ℕ) → i < n → In s i → Memᴰ (k + i) (members_from n k s)
unfolding members_from
members_of zero k s i h b = absurd (omega arith)
members_of (suc n) k s zero h b = go (lowest s)
  where
    go : Lowest s → Memᴰ (k + 0) (pick (eqb (s % 2) 1) (k ∷ members_from n (suc k) (s / 2)) (members_from n (suc k) (s / 2)))
    go (off e t) = absurd (omega (arith, sym (bit_at_lowest s) ∙ b))
    go (on e t) = rw t (Memᴰ.head (add-zero k))
members_of (suc n) k s (suc i) h b = go (lowest s) (rw e at (members_of n (suc k) (s / 2) i (omega arith) (sym (bit_at-suc s i) ∙ b)))
  where
    e : suc k + i ≡ k + suc i
    e = omega arith

    go : Lowest s → Memᴰ (k + suc i) (members_from n (suc k) (s / 2))
        → Memᴰ (k + suc i) (pick (eqb (s % 2) 1) (k ∷ members_from n (suc k) (s / 2)) (members_from n (suc k) (s / 2)))
    go (off z t) m = rw t m
    go (on z t) m = rw t (Memᴰ.tail m)

rising_over : (k : ℕ) (l : List ℕ) → Rising l → ((o : ℕ) → Memᴰ o l → k < o) → Rising (k ∷ l)
rising_over k [] r f = single
rising_over k (y ∷ l) r f = step (f y (Memᴰ.head refl)) r

members_rising : (n k s : ℕ) → Rising (members_from n k s)
unfolding members_from
members_rising zero k s = none
members_rising (suc n) k s = go (lowest s) (members_rising n (suc k) (s / 2)) (members_to n (suc k) (s / 2))
  where
    go : Lowest s → Rising (members_from n (suc k) (s / 2)) → ((o : ℕ) → Memᴰ o (members_from n (suc k) (s / 2)) → From n (suc k) (s / 2) o)
        → Rising (pick (eqb (s % 2) 1) (k ∷ members_from n (suc k) (s / 2)) (members_from n (suc k) (s / 2)))
    go (off e t) r f = rw t r
    go (on e t) r f = rw t (rising_over k (members_from n (suc k) (s / 2)) r (λ o m. let (i, h, w, b) = f o m in omega arith))

members_many : (n k s : ℕ) → s < 2 ^ n → length (members_from n k s) ≡ ones s
unfolding members_from ones
members_many zero k s h = let e : s ≡ 0 = omega arith in rw e
members_many (suc n) k s h = go (lowest s) (members_many n (suc k) (s / 2) (omega (arith, pow-suc 2 n)))
  where
    go : Lowest s → length (members_from n (suc k) (s / 2)) ≡ ones (s / 2)
        → length (pick (eqb (s % 2) 1) (k ∷ members_from n (suc k) (s / 2)) (members_from n (suc k) (s / 2))) ≡ ones s
    go (off e t) i = rw t (omega (arith, ones_step s))
    go (on e t) i = rw t (omega (arith, ones_step s))

-- THEOREM: the number of ones is the number of those in the set
pub size_is : (s : ℕ) → s < 2 ^ set_bits → Size s (ones s)
size_is s h = record {
  members = members_from set_bits 0 s;
  rising = members_rising set_bits 0 s;
  exactly = λ o. (to o, of o);
  many = members_many set_bits 0 s h;
}
  where
    to : (o : ℕ) → Memᴰ o (members_from set_bits 0 s) → In s o
    to o m = let (i, l, e, b) = members_to set_bits 0 s o m in let w : o ≡ i = omega arith in rw w b

    of : (o : ℕ) → In s o → Memᴰ o (members_from set_bits 0 s)
    of o b = go (dec_lt o set_bits)
      where
        go : Dec (o < set_bits) → Memᴰ o (members_from set_bits 0 s)
        go (yes l) = rw (zero-add o) at (members_of set_bits 0 s o l b)
        go (no l) = absurd (omega (arith, bit_at_above s set_bits o h (omega arith)))

pub block_size_once : (s n m : ℕ) → Size s n → Size s m → n ≡ m
block_size_once s n m a b =
    let e : a.members ≡ b.members
    = rising_once a.members b.members a.rising b.rising (λ o h. (b.exactly o).1 ((a.exactly o).0 h)) (λ o h. (a.exactly o).1 ((b.exactly o).0 h)) in
    sym a.many ∙ ap length e ∙ b.many

-- ── the first ──
-- of the lowest n bits
abbrev Firstly : ℕ → ℕ → ℕ → Type 0
Firstly n s i = Least (In s) n i ⊎ ((i ≡ n) × Free (In s) n)

first_from : (n s : ℕ) → Firstly n s (count_trailing_zeros n s)
unfolding count_trailing_zeros
first_from zero s = inr (refl, λ j h b. omega arith)
first_from (suc n) s = go (lowest s) (first_from n (s / 2))
  where
    later : (m : ℕ) → s % 2 ≡ 0 → Free (In (s / 2)) m → Free (In s) (suc m)
    later m e f zero h b = omega (arith, sym (bit_at_lowest s) ∙ b)
    later m e f (suc j) h b = f j (omega arith) (sym (bit_at-suc s j) ∙ b)

    go : Lowest s → Firstly n (s / 2) (count_trailing_zeros n (s / 2)) → Firstly (suc n) s (under (s % 2) (count_trailing_zeros n (s / 2)))
    go (on e t) w = rw e (inl (record { below = omega arith; has = bit_at_lowest s ∙ e; first = λ j h b. omega arith }))
    go (off e t) (inl l) = rw e (inl (record {
      below = omega (arith, l.below);
      has = bit_at-suc s (count_trailing_zeros n (s / 2)) ∙ l.has;
      first = later (count_trailing_zeros n (s / 2)) e l.first;
    }))
    go (off e t) (inr (z, f)) = rw e (inr (ap suc z, later n e f))

-- THEOREM: the number of trailing zeros is the first in the set, or its width
pub first_is : (s : ℕ) → FirstIn s (count_trailing_zeros set_bits s)
first_is s = first_from set_bits s

pub first_occurrence_once : (s i j : ℕ) → FirstIn s i → FirstIn s j → i ≡ j
first_occurrence_once s i j (inl a) (inl b) = least_once (In s) set_bits set_bits i j a b
first_occurrence_once s i j (inl a) (inr b) = absurd (least_not_free (In s) set_bits i a b.1)
first_occurrence_once s i j (inr a) (inl b) = absurd (least_not_free (In s) set_bits j b a.1)
first_occurrence_once s i j (inr a) (inr b) = a.0 ∙ sym b.0
