-- Laws of the starts: the number of choices as a product, and the sums of the productions' entries.
use mathlib.Core.Path.{◌≡◌, sym, ap, ◌∙◌}
use mathlib.Core.List.{List}
use Prim.Native.Nat.{ℕ, suc, ◌+◌, ◌*◌, ◌^◌, ◌≤◌, ◌<◌}
use native.Mathlib.Nat.{mul-le-mul, mul_assoc, mul-one, one-mul, pow-zero, pow-suc, pow-le-pow_right}
use native.Mathlib.Decide.{ℕ_discrete}
use native.Mathlib.Numerals.{add-one}
use native.Mathlib.Omega.{arith}
use mir.Syntax.{w8}
use mir.Val.{Fits}
use lib.ListN.{length, get_or, drop, set, replicate, length-replicate, length-set}
use Rattle.std.proofs.lemmas.List.{drop_all}
use lib.Seq.{drop-cons, get_or-set_same, get_or-set_other}
use Rattle.chains.specs.Limits.{max_prods}
use Rattle.ranks.specs.Entries.{choices, byte_values}

-- ── the product of the counts c of the kinds ks, the first j of them multiplied ──
pub record Multiplying (c ks : List ℕ) (x j : ℕ) : Type 0 where
  pub whole : x * choices c (drop j ks) ≡ choices c ks
  pub small : x ≤ byte_values ^ j

module _ {c ks : List ℕ} {x j : ℕ} (k : Multiplying c ks x j) where
  pub multiplying_turn : j < length ks → Fits w8 (get_or c (get_or ks j 0) 0) → Multiplying c ks (x * get_or c (get_or ks j 0) 0) (j + 1)
  unfolding choices
  multiplying_turn h l =
      let v = get_or c (get_or ks j 0) 0 in
      let b : x * v ≤ byte_values ^ j * byte_values = mul-le-mul k.small (omega (arith, l)) in
      record {
        whole = mul_assoc x v _ ∙ ap (λ m. x * (v * choices c (drop m ks))) (add-one j) ∙ ap (λ t. x * choices c t) (sym (drop-cons ks j 0 h)) ∙ k.whole;
        small = rw (add-one j) (omega (arith, pow-suc byte_values j));
      }

  pub multiplying_small : (n : ℕ) → j ≤ n → x ≤ byte_values ^ n
  multiplying_small n h = omega (arith, k.small, pow-le-pow_right {n = byte_values} (omega arith) {i = j} {j = n} h)

  pub multiplying_done : length ks ≤ j → x ≡ choices c ks
  unfolding choices
  multiplying_done h = sym (mul-one x) ∙ ap (λ t. x * choices c t) (sym (drop_all j ks h)) ∙ k.whole

-- ── sums: P p n says that production p has n entries, and S p is where its entries begin ──
pub record Summing (P : ℕ → ℕ → Type 0) (count most : ℕ) (starts : List ℕ) (next p : ℕ) : Type 0 where
  pub small : next ≤ p * most
  pub long : length starts ≡ max_prods
  pub sums : (S : ℕ → ℕ) → ((q n : ℕ) → q < count → P q n → S (suc q) ≡ S q + n) → S 0 ≡ 0
      → (next ≡ S p) × ((q : ℕ) → q < p → get_or starts q 0 ≡ S q)

module _ {P : ℕ → ℕ → Type 0} {count most : ℕ} {starts : List ℕ} {next p : ℕ} (k : Summing P count most starts next p) where
  pub summing_turn : {n : ℕ} → p < count → count ≤ max_prods → P p n → n ≤ most → Summing P count most (set starts p next) (next + n) (p + 1)
  summing_turn {n} h few x l =
      let m : (p + 1) * most ≡ p * most + most = omega arith in
      record {
        small = omega (arith, k.small);
        long = length-set starts p next ∙ k.long;
        sums = λ S f e.
            let (sum, built) = k.sums S f e in
            (ap (λ y. y + n) sum ∙ sym (f p n h x) ∙ ap S (sym (add-one p)), λ q z. go S sum built q z (ℕ_discrete q p));
      }
    where
      go : (S : ℕ → ℕ) → next ≡ S p → ((q : ℕ) → q < p → get_or starts q 0 ≡ S q) → (q : ℕ) → q < p + 1 → Dec (q ≡ p) → get_or (set starts p next) q 0 ≡ S q
      go S sum built q z (yes e) = ap (λ t. get_or (set starts p next) t 0) e ∙ get_or-set_same starts p next 0 (omega (arith, k.long)) ∙ sum ∙ ap S (sym e)
      go S sum built q z (no e) = get_or-set_other starts p q next 0 e ∙ built q (omega arith)
