-- The states from which all was gathered already: for each number of turns left a counter, and places for states.
use Rattle.std.specs.Prelude.{◌≡◌, List, [], ℕ, ◌+◌, ◌-◌, ◌*◌, ◌%◌, ◌<◌, min, ltb, length, get_or, set}
use Rattle.lists.specs.Pick.{pick}
use Rattle.chains.specs.Limits.{max_kids}
use Rattle.tables.specs.declared.seen.Level.{Level}

-- the states kept for one number of turns left
abbrev pub places : ℕ
places = 64

-- the numbers of turns that may be left: none, or up to one for each slot
abbrev pub levels : ℕ
levels = 2 + max_kids

-- how many of a level's places are filled, by its counter
abbrev pub filled : Level → ℕ
filled v = min v.counter places

-- none is
abbrev pub Blank : Level → Type 0
Blank v = v.counter ≡ 0

-- the counter after one state more: behind the last one it goes round
abbrev pub last_counter : ℕ
last_counter = 2 * places - 1

abbrev pub advanced : ℕ → ℕ
advanced n = pick (ltb n last_counter) (n + 1) places

-- s stands there
abbrev pub Found : Level → List ℕ → Type 0
Found v s = (i : ℕ) × (i < filled v) × (get_or v.states i [] ≡ s)

-- v with s put there
abbrev pub remembered : Level → List ℕ → Level
remembered v s = record { counter = advanced v.counter; states = set v.states (v.counter % places) s }

-- the level of so many turns left
abbrev pub level : List Level → ℕ → Level
level l j = get_or l j (record { counter = 0; states = [] })

-- whatever stands at a level has W there
pub record Stored (W : ℕ → List ℕ → Type 0) (l : List Level) : Type 0 where
  pub long : length l ≡ levels
  pub each : (j : ℕ) (s : List ℕ) → j < levels → Found (level l j) s → W j s
