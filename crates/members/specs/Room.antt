-- Refusal 9: whether slices of some lengths have the places of so many kinds' sets and counts.
use Rattle.std.specs.Prelude.{◌≡◌, ◌⊎◌, Bool, true, false, ℕ, ◌*◌, ◌≤◌, ◌<◌}
use Rattle.chains.specs.Limits.{max_members}

-- by their lengths, sets or counts have too few places for n kinds
abbrev pub TooShort : (n plausible plausible_counts feasible feasible_counts : ℕ) → Type 0
TooShort n a b c d = (a < n * max_members) ⊎ (b < n) ⊎ (c < n * max_members) ⊎ (d < n)

-- or enough
pub record Roomy (n a b c d : ℕ) : Type 0 where
  pub plausible : n * max_members ≤ a
  pub plausible_counts : n ≤ b
  pub feasible : n * max_members ≤ c
  pub feasible_counts : n ≤ d

-- THE PROMISE of `too_short`: r tells which
pub record Measured (n a b c d : ℕ) (r : Bool) : Type 0 where
  pub short : r ≡ true → TooShort n a b c d
  pub roomy : r ≡ false → Roomy n a b c d
