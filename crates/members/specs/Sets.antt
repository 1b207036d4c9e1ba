-- Sets of groupings in lent memory: 64 places for each kind, and its count beside it.
use Rattle.std.specs.Prelude.{◌≡◌, Bool, true, false, Option, Some, None, Result, Ok, Err, ℕ, suc, ◌+◌, ◌*◌, ◌≤◌, ◌<◌, length, get_or, set}
use mathlib.Core.List.{List, Memᴰ}
use Rattle.lists.specs.Part.{part, place}
use Rattle.lists.specs.Rising.{insert}
use Rattle.lists.specs.Sought.{Free, Least}
use Rattle.chains.specs.Limits.{max_members}
use Rattle.members.specs.declared.Full.{Full}

-- the members of kind k in the sets s, of which c has the counts
abbrev pub members : List ℕ → List ℕ → ℕ → List ℕ
members s c k = part (k * max_members) (get_or c k 0) s

-- x is one of them
abbrev pub Has : List ℕ → List ℕ → ℕ → ℕ → Type 0
Has s c k x = Memᴰ x (members s c k)

-- the member of kind k at rank r
abbrev pub member : List ℕ → ℕ → ℕ → ℕ
member s k r = get_or s (k * max_members + r) 0

-- kind k's places are there, and its count is one
pub record Placed (s c : List ℕ) (k : ℕ) : Type 0 where
  pub there : k * max_members + max_members ≤ length s
  pub here : k < length c
  pub few : get_or c k 0 ≤ max_members

-- place i of the n places from base on is the first that holds x; or none does
abbrev pub Search : List ℕ → ℕ → ℕ → ℕ → Option ℕ → Type 0
Search s base n x (Some i) = Least (λ j. get_or s (base + j) 0 ≡ x) n i
Search s base n x None = Free (λ j. get_or s (base + j) 0 ≡ x) n

-- THE PROMISE of a search: the first of the places that holds x, where all of them are there; else none
pub record Sought (s : List ℕ) (base n x : ℕ) (r : Option ℕ) : Type 0 where
  pub there : base + n ≤ length s → Search s base n x r
  pub missing : length s < base + n → r ≡ None

-- what an attempt to add comes to: nothing new, something new, or no room for it
abbrev pub Case : Result Bool Full → Type 0 → Type 0 → Type 0 → Type 0
Case (Ok false) A B C = A
Case (Ok true) A B C = B
Case (Err e) A B C = C

-- x is put into kind k's set, which had room for it
pub record Grown (k x : ℕ) (s c s' c' : List ℕ) : Type 0 where
  pub free : get_or c k 0 < max_members
  pub new : Has s c k x → ⊥
  pub held : s' ≡ place (k * max_members) (insert x (members s c k)) s
  pub counted : c' ≡ set c k (suc (get_or c k 0))

-- x was there; it is there now; or it is new and there is no place for it
pub record Tried (k x : ℕ) (s c s' c' : List ℕ) (r : Result Bool Full) : Type 0 where
  pub case : Case r ((s' ≡ s) × (c' ≡ c) × Has s c k x)
      (Grown k x s c s' c')
      ((s' ≡ s) × (c' ≡ c) × (get_or c k 0 ≡ max_members) × (Has s c k x → ⊥))

-- THE PROMISE of putting x into kind k's set: it is tried where the kind has its places and its count; else nothing changes, and the set is full
pub record Put (k x : ℕ) (s c s' c' : List ℕ) (r : Result Bool Full) : Type 0 where
  pub there : Placed s c k → Tried k x s c s' c' r
  pub missing : (Placed s c k → ⊥) → (s' ≡ s) × (c' ≡ c) × (r ≡ Err (record {}))
