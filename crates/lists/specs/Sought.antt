-- What a search from 0 up to n leaves.
use Rattle.std.specs.Prelude.{ℕ, ◌<◌}

-- nothing below n has P
abbrev pub Free : (ℕ → Type 0) → ℕ → Type 0
Free P n = (i : ℕ) → i < n → P i → ⊥

-- i is the first below n that has P
pub record Least (P : ℕ → Type 0) (n i : ℕ) : Type 0 where
  pub below : i < n
  pub has : P i
  pub first : Free P i
