-- The sets while they are worked out, for any family P of what may stand in them.
use Rattle.std.specs.Prelude.{◌≡◌, Bool, List, Result, ℕ, ◌*◌, ◌≤◌, ◌<◌, length, get_or}
use Rattle.lists.specs.Rising.{Rising}
use Rattle.lists.specs.Room as lists
use Rattle.chains.specs.Limits.{max_members}
use Rattle.members.specs.Sets.{members, Has, member, Case}
use Rattle.tables.specs.Sets.{Over}
use Rattle.members.specs.declared.Full.{Full}

-- the first n kinds have rising sets of what has P, zeros behind
pub record Fine (n : ℕ) (P : ℕ → ℕ → Type 0) (s c : List ℕ) : Type 0 where
  pub there : n * max_members ≤ length s
  pub here : n ≤ length c
  pub few : (k : ℕ) → k < n → get_or c k 0 ≤ max_members
  pub rising : (k : ℕ) → k < n → Rising (members s c k)
  pub only : (k x : ℕ) → k < n → Has s c k x → P k x
  pub blank : (k i : ℕ) → k < n → get_or c k 0 ≤ i → i < max_members → member s k i ≡ 0

-- the places that the sets still have free: what falls when something is added
abbrev pub room : List ℕ → ℕ
room c = lists.room max_members c

-- from s, c to s', c' nothing is lost, and nothing beyond the first n kinds is touched
pub record Kept (n : ℕ) (s c s' c' : List ℕ) : Type 0 where
  pub long : length s' ≡ length s
  pub long_c : length c' ≡ length c
  pub beyond : (i : ℕ) → n * max_members ≤ i → get_or s' i 0 ≡ get_or s i 0
  pub beyond_c : (k : ℕ) → n ≤ k → get_or c' k 0 ≡ get_or c k 0
  pub grows : (k : ℕ) → get_or c k 0 ≤ get_or c' k 0
  pub less : room c' ≤ room c
  pub stays : (k x : ℕ) → k < n → Has s c k x → Has s' c' k x

-- what a step of a pass leaves: D, with nothing added or with something; or some set would be over-full
pub record Turned (n : ℕ) (P : ℕ → ℕ → Type 0) (D : Type 0) (s c s' c' : List ℕ) (r : Result Bool Full) : Type 0 where
  pub fine : Fine n P s' c'
  pub kept : Kept n s c s' c'
  pub case : Case r ((s' ≡ s) × (c' ≡ c) × D) ((room c' < room c) × D) (Over n P)
