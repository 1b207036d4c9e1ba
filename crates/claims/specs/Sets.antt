-- DEMAND 2, the sets and the tables: what an accepted build leaves.
use Rattle.std.specs.Prelude.{◌≡◌, ◌↔◌, List, [], ◌∷◌, ℕ, ◌<◌, get_or}
use Rattle.chains.specs.Grammar.{Grammar}
use Rattle.chains.specs.Plausible.{Plausible}
use Rattle.chains.specs.Feasible.{Feasible}
use Rattle.members.specs.Sets.{member}
use Rattle.tables.specs.Entries.{UpTable, DownTable}
use Rattle.tables.specs.Promise.{Lent, up_entries, down_entries}

-- the code c stands below the count of the kind k
abbrev pub StandsIn : (sets counts : List ℕ) → ℕ → ℕ → Type 0
StandsIn sets counts k c = (r : ℕ) × (r < get_or counts k 0) × (member sets k r ≡ c)

-- the codes of the kind k rise with their ranks
abbrev pub InOrder : (sets counts : List ℕ) → ℕ → Type 0
InOrder sets counts k = (r r' : ℕ) → r < r' → r' < get_or counts k 0 → member sets k r < member sets k r'

-- m is what the build left, entries what it answered
pub record SetsAreRight (G : Grammar) (m : Lent) (entries : List ℕ) : Type 0 where
  -- a code stands in the plausible slice exactly when some finite tree under its kind, of whatever size, produces it by chains
  pub plausible : (k c : ℕ) → k < G.kinds → StandsIn m.plausible m.plausible_counts k c ↔ Plausible G k c
  -- and in the feasible slice exactly when the article's downward pass gives it
  pub feasible : (k c : ℕ) → k < G.kinds → StandsIn m.feasible m.feasible_counts k c ↔ Feasible G k c
  pub plausible_order : (k : ℕ) → k < G.kinds → InOrder m.plausible m.plausible_counts k
  pub feasible_order : (k : ℕ) → k < G.kinds → InOrder m.feasible m.feasible_counts k
  -- each entry of each production and choice is what the sets say, and there are as many as the sets say
  pub up : UpTable G m.plausible m.plausible_counts m.up
  pub down : DownTable G m.plausible m.plausible_counts m.feasible m.feasible_counts m.down
  pub counted : entries ≡ up_entries G m.plausible_counts ∷ down_entries G m.plausible_counts m.feasible_counts ∷ []
