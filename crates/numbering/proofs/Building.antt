-- A loop that stores f j at each place j of an array from the first on: what holds at its head, and how a turn keeps it.
use mathlib.Core.Path.{◌≡◌, sym, ap, ◌∙◌}
use mathlib.Core.List.{List}
use Prim.Native.Nat.{ℕ, ◌+◌, ◌≤◌, ◌<◌}
use native.Mathlib.Decide.{ℕ_discrete}
use native.Mathlib.Omega.{arith}
use lib.ListN.{length, get_or, set, length-set}
use lib.Seq.{get_or-set_same, get_or-set_other}

-- of n places the first j have what f gives, the others what g gives
pub record Building (f g : ℕ → ℕ) (n : ℕ) (out : List ℕ) (j : ℕ) : Type 0 where
  pub long : length out ≡ n
  pub done : (i : ℕ) → i < j → get_or out i 0 ≡ f i
  pub rest : (i : ℕ) → j ≤ i → i < n → get_or out i 0 ≡ g i

pub building_none : (f g : ℕ → ℕ) (n : ℕ) (out : List ℕ) → length out ≡ n → ((i : ℕ) → i < n → get_or out i 0 ≡ g i) → Building f g n out 0
building_none f g n out l h = record { long = l; done = λ i k. absurd (omega arith); rest = λ i k m. h i m }

pub building_turn : {f g : ℕ → ℕ} {n : ℕ} {out : List ℕ} {j : ℕ} (v : ℕ) → Building f g n out j → j < n → v ≡ f j → Building f g n (set out j v) (j + 1)
building_turn {f} {g} {n} {out} {j} v b h e = record {
  long = length-set out j v ∙ b.long;
  done = λ i k. go i k (ℕ_discrete i j);
  rest = λ i k m. get_or-set_other out j i v 0 (λ s. omega arith) ∙ b.rest i (omega arith) m;
}
  where
    go : (i : ℕ) → i < j + 1 → Dec (i ≡ j) → get_or (set out j v) i 0 ≡ f i
    go i k (yes s) = ap (λ m. get_or (set out j v) m 0) s ∙ get_or-set_same out j v 0 (omega (arith, b.long)) ∙ e ∙ ap f (sym s)
    go i k (no s) = get_or-set_other out j i v 0 s ∙ b.done i (omega arith)
