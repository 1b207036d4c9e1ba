-- FIG. 1 IS NOT REFUSED: what a version that refuses everything runs into.
use Rattle.std.specs.Prelude.{◌≡◌, ◌⊎◌, List, [], ◌∷◌, ℕ, ◌*◌, ◌≤◌, length}
use Rattle.lists.specs.Refusals.{accepted, refused}
use Rattle.chains.specs.Limits.{max_members}
use Rattle.book.specs.Format.{grammar}
use Rattle.ranks.specs.Entries.{entry_bytes}
use Rattle.tables.specs.Promise as tables
use Rattle.numbering.specs.Walk.{Tables}
use Rattle.numbering.specs.Promise as numbering
use Rattle.claims.specs.Build.{LeftBy}
use Rattle.claims.specs.Examples.{book}

-- memory that is enough for a build of its book: the sets and the counts of three kinds, 9 up entries, 24 down entries
pub record Roomy (m : tables.Lent) : Type 0 where
  pub plausible : 3 * max_members ≤ length m.plausible
  pub plausible_counts : 3 ≤ length m.plausible_counts
  pub feasible : 3 * max_members ≤ length m.feasible
  pub feasible_counts : 3 ≤ length m.feasible_counts
  pub up : 9 ≤ length m.up
  pub down : 24 * entry_bytes ≤ length m.down

-- the sheets of the worked examples that are grouped
abbrev pub Worked : List ℕ → Type 0
Worked l = (l ≡ 0 ∷ 1 ∷ 3 ∷ []) ⊎ (l ≡ 0 ∷ 2 ∷ 4 ∷ [])

pub record NothingRefused : Type 0 where
  -- no refusal of a build is due, whatever stands in its memory
  pub build : (m₀ m : tables.Lent) → Roomy m₀ → (number place : ℕ) → tables.BuildDue book m₀ (refused number place) m → ⊥
  -- nor one of a sheet call by what a build left, with room for three nodes and ten settings
  pub call : (m₀ m : tables.Lent) (made : List ℕ) → tables.BuildDue book m₀ (accepted made) m → (T : Tables) → LeftBy (grammar book) m T
      → (l : List ℕ) → Worked l → (n₀ n : numbering.Lent) → 9 ≤ length n₀.nodes → 10 ≤ length n₀.groups
      → (number place : ℕ) → numbering.CallDue book l T n₀ (refused number place) n → ⊥
