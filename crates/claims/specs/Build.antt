-- What a sheet call is given after a build.
use Rattle.std.specs.Prelude.{◌≡◌, ℕ, ◌*◌, ◌≤◌, ◌<◌, length, get_or}
use Rattle.chains.specs.Grammar.{Grammar}
use Rattle.ranks.specs.Entries.{entry_bytes, none}
use Rattle.tables.specs.Promise as tables
use Rattle.tables.specs.Promise.{up_entries, down_entries}
use Rattle.numbering.specs.Walk.{Tables}

-- T has what a build left in the memory m: the counts of the grammar's kinds and every entry of the two tables. What stands behind them, and how much of
-- it there is, is free
pub record LeftBy (G : Grammar) (m : tables.Lent) (T : Tables) : Type 0 where
  pub plausible_here : G.kinds ≤ length T.plausible_counts
  pub plausible_counts : (k : ℕ) → k < G.kinds → get_or T.plausible_counts k 0 ≡ get_or m.plausible_counts k 0
  pub feasible_here : G.kinds ≤ length T.feasible_counts
  pub feasible_counts : (k : ℕ) → k < G.kinds → get_or T.feasible_counts k 0 ≡ get_or m.feasible_counts k 0
  pub up_room : up_entries G m.plausible_counts ≤ length T.up
  pub up : (e : ℕ) → e < up_entries G m.plausible_counts → get_or T.up e none ≡ get_or m.up e none
  pub down_room : down_entries G m.plausible_counts m.feasible_counts * entry_bytes ≤ length T.down
  pub down : (i : ℕ) → i < down_entries G m.plausible_counts m.feasible_counts * entry_bytes → get_or T.down i none ≡ get_or m.down i none

-- the very slices of that memory
abbrev pub tables_of : tables.Lent → Tables
tables_of m = record { plausible_counts = m.plausible_counts; feasible_counts = m.feasible_counts; up = m.up; down = m.down }
