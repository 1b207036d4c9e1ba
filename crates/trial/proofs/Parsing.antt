-- An argument is found, or there is none: for each test of its reader the reason.
use Prim.Native.Nat.{ℕ, ◌+◌, ◌/◌, ◌%◌, ◌≤◌, ◌<◌}
use mathlib.Core.Path.{◌≡◌, sym, ap, ◌∙◌}
use mathlib.Core.List.{List}
use native.Mathlib.Omega.{arith}
use native.Mathlib.Nat.{mul-mod_left, mul-div_left, div-add-mod', add-zero}
use lib.ListN.{length, take, drop}
use Rattle.trial.specs.Numbers.{four}
use Rattle.trial.specs.Requests.{Argument, NoArgument}

module _ {left : List ℕ} {width room n : ℕ} (told : n ≡ four left 0) where
  pub uneven : (n % width ≡ 0 → ⊥) → NoArgument left width room
  uneven h a b g = h (ap (λ (x : ℕ). x % width) (told ∙ g.whole) ∙ mul-mod_left g.many width)

  pub over : 0 < width → room < n / width → NoArgument left width room
  over l h a b g =
      let same : n / width ≡ g.many = ap (λ (x : ℕ). x / width) (told ∙ g.whole) ∙ mul-div_left g.many l in
      omega (arith, g.fits)

  pub found : {a b : List ℕ} → 4 + n ≤ length left → a ≡ take n (drop 4 left) → b ≡ drop (4 + n) left → n % width ≡ 0 → n / width ≤ room
      → Argument left width room a b
  found h e f m d =
      record {
        within = omega (arith, told);
        begins = rw told at e;
        ends = rw told at f;
        many = n / width;
        whole = sym told ∙ sym (div-add-mod' n width) ∙ rw m (add-zero _);
        fits = d;
      }
