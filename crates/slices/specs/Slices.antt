-- What work on lent slices leaves.
use Rattle.std.specs.Prelude.{◌≡◌, Bool, false, List, ℕ, ◌+◌, ◌≤◌, ◌<◌, length}
use Rattle.lists.specs.Part.{place}
use Rattle.lists.specs.Inserted.{Inserted}
use Rattle.chains.specs.Labels.{relabel}

-- THE PROMISE of an insertion: the n numbers from base on have taken x in, where a place behind them is there; else the slice is as it came
pub record Taken (base n x : ℕ) (s s' : List ℕ) (r : Bool) : Type 0 where
  pub room : base + n < length s → Inserted base n x s s' r
  pub none : length s ≤ base + n → (s' ≡ s) × (r ≡ false)

-- THE PROMISE of relabelling: every b has become a, and nothing else has changed
abbrev pub Relabelled : ℕ → ℕ → List ℕ → List ℕ → Type 0
Relabelled a b s s' = s' ≡ relabel a b s

-- THE PROMISE of laying: s stands in t from a place on, where it fits whole; else t is as it came
pub record Overlaid (from : ℕ) (s t t' : List ℕ) : Type 0 where
  pub room : from + length s ≤ length t → t' ≡ place from s t
  pub none : length t < from + length s → t' ≡ t
