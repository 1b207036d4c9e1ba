-- A choice's number worked out child by child: each child's rank is a digit below those before it.
use mathlib.Core.Path.{◌≡◌, sym, ap, ◌∙◌}
use mathlib.Core.List.{List, ◌∷◌}
use Prim.Native.Nat.{ℕ, suc, ◌+◌, ◌-◌, ◌*◌, ◌^◌, ◌≤◌, ◌<◌}
use native.Mathlib.Nat.{mul_assoc, mul-le-mul_left, add-mul, add_assoc, pow-suc, pow-le-pow_right}
use native.Mathlib.Numerals.{add-one}
use native.Mathlib.Omega.{arith}
use lib.ListN.{length, get_or, drop}
use lib.Seq.{drop-cons}
use Rattle.std.proofs.lemmas.List.{length-map, get_or-map}
use Rattle.ranks.specs.Entries.{choices, choice, byte_values}
use Rattle.ranks.specs.Reads.{from, counts_of, numbers}
use Rattle.ranks.specs.declared.Chosen.{Chosen}
use Rattle.ranks.proofs.Digits.{digit_below}

-- the number of a first digit, most, and a choice
abbrev pub under : ℕ → List ℕ → List ℕ → List ℕ → ℕ
under most ns ks rs = most * choices ns ks + choice ns ks rs

-- x is the number of most and of the first i of n children's ranks rs, whose counts are ns; all of these are bytes
pub record Counting (n most : ℕ) (ns rs : List ℕ) (x i : ℕ) : Type 0 where
  pub at : i ≤ n
  pub small : x < byte_values ^ suc i
  pub rest : under x ns (from i (n - i)) (drop i rs) ≡ under most ns (from 0 n) rs

under_step : (x : ℕ) (ns : List ℕ) (k : ℕ) (ks : List ℕ) (r : ℕ) (rs : List ℕ) → under (x * get_or ns k 0 + r) ns ks rs ≡ under x ns (k ∷ ks) (r ∷ rs)
unfolding choices choice
under_step x ns k ks r rs =
    ap (λ m. m + choice ns ks rs) (add-mul (x * get_or ns k 0) r (choices ns ks) ∙ ap (λ m. m + r * choices ns ks) (mul_assoc x (get_or ns k 0) (choices ns ks)))
    ∙ add_assoc (x * (get_or ns k 0 * choices ns ks)) (r * choices ns ks) (choice ns ks rs)

module _ {n most : ℕ} {ns rs : List ℕ} {x i : ℕ} (k : Counting n most ns rs x i) where
  pub counting_small : x < byte_values ^ suc n
  counting_small = omega (arith, pow-le-pow_right {n = byte_values} (omega arith) {i = suc i} {j = suc n} (omega (arith, k.at)))

  -- the next child's count y and rank r
  grown : {y r : ℕ} → y < byte_values → r < byte_values → x * y + r < byte_values ^ suc (suc i)
  grown {y} {r} ly lr =
      let b : x * y ≤ x * byte_values = mul-le-mul_left x (omega arith) in
      omega (arith, digit_below {m = byte_values} x r k.small lr, pow-suc byte_values (suc i))

  pub counting_step : i < n → i < length rs → {y r : ℕ} → y ≡ get_or ns i 0 → y < byte_values → r ≡ get_or rs i 0 → r < byte_values → Counting n most ns rs (x * y + r) (i + 1)
  unfolding from
  counting_step more here {y} {r} ey ly er lr =
      let e : n - i ≡ suc (n - suc i) = omega arith in
      let b : under x ns (from i (n - i)) (drop i rs) ≡ under x ns (i ∷ from (suc i) (n - suc i)) (get_or rs i 0 ∷ drop (suc i) rs) = rw (drop-cons rs i 0 here, e) in
      record {
        at = omega arith;
        small = rw (add-one i) (grown ly lr);
        rest = rw (ey, er, add-one i) (under_step x ns i (from (suc i) (n - suc i)) (get_or rs i 0) (drop (suc i) rs) ∙ sym b ∙ k.rest);
      }

  pub counting_done : n ≤ i → x ≡ under most ns (from 0 n) rs
  unfolding from choices choice
  counting_done h =
      let e : n - i ≡ 0 = omega (arith, k.at) in
      let f : x * 1 + 0 ≡ under most ns (from 0 n) rs = rw e at k.rest in
      omega arith

-- ── a child's count and rank ──
module _ (l : List Chosen) where
  pub numbers_long : length (numbers l) ≡ length l
  numbers_long = length-map l (λ c. c.rank.0)

  pub count_at : (i : ℕ) → i < length l → get_or (counts_of l) i 0 ≡ (get_or l i (record { count = 0; rank = record { 0 = 0 } })).count
  count_at i h = get_or-map (λ c. c.count) l i _ 0 h

  pub number_at : (i : ℕ) → i < length l → get_or (numbers l) i 0 ≡ (get_or l i (record { count = 0; rank = record { 0 = 0 } })).rank.0
  number_at i h = get_or-map (λ c. c.rank.0) l i _ 0 h
