-- The sweeps of a pass: what the productions that were visited have put in, and the marks by which a visit is spared.
use Rattle.std.specs.Prelude.{◌≡◌, ◌⊎◌, Bool, List, Result, OnOk, OnErr, ℕ, zero, suc, ◌+◌, ◌<◌, ◌≤◌, get_or}
use Rattle.chains.specs.Limits.{max_prods}
use Rattle.members.specs.Sets.{Has}
use Rattle.tables.specs.Sets.{Over, Holds}
use Rattle.tables.specs.Memory.{Fine, Kept, Turned}
use Rattle.tables.specs.Visit.{Gathered}
use Rattle.members.specs.declared.Full.{Full}

-- the steps of a pass, which leans on some fact. What has `may` may stand in the sets of so many kinds. Each of so many productions has steps:
-- `step p j A x` says that step j of production p gives x for sets that have A; and x goes into the set of the kind `into p j`. What they give hangs
-- on the kinds alone that the production watches
pub record Steps : Type 1 where
  pub leans : Type 0
  pub kinds : ℕ
  pub may : ℕ → ℕ → Type 0
  pub prods : ℕ
  pub many : ℕ → ℕ
  pub step : ℕ → ℕ → (ℕ → ℕ → Type 0) → ℕ → Type 0
  pub into : ℕ → ℕ → ℕ
  pub watches : ℕ → ℕ
  pub watch : ℕ → ℕ → ℕ

pub record Lawful (q : Steps) : Type 0 where
  pub leans : q.leans
  pub few : q.prods ≤ max_prods
  pub into_in : (p j : ℕ) → p < q.prods → j < q.many p → q.into p j < q.kinds
  pub watch_in : (p i : ℕ) → p < q.prods → i < q.watches p → q.watch p i < q.kinds
  pub local : (p j : ℕ) → p < q.prods → j < q.many p → (s c s' c' : List ℕ)
      → ((i x : ℕ) → i < q.watches p → Has s c (q.watch p i) x → Has s' c' (q.watch p i) x)
      → (x : ℕ) → q.step p j (Has s c) x → q.step p j (Has s' c') x

-- step A x: the step gives x for sets that have A. Some time since s₀, c₀, all that it gave for the sets as they stood was put into kind k's set, and it is there
pub record Since (n : ℕ) (step : (ℕ → ℕ → Type 0) → ℕ → Type 0) (k : ℕ) (s₀ c₀ s c : List ℕ) : Type 0 where
  pub sets : List ℕ
  pub counts : List ℕ
  pub earlier : Kept n s₀ c₀ sets counts
  pub fine : Fine n (Has sets counts) sets counts
  pub later : Kept n sets counts s c
  pub gathered : Gathered k (step (Has sets counts)) s c

-- so it is with each step of production p
abbrev pub Served : Steps → ℕ → (s₀ c₀ s c : List ℕ) → Type 0
Served q p s₀ c₀ s c = (j : ℕ) → j < q.many p → Since q.kinds (q.step p j) (q.into p j) s₀ c₀ s c

-- how many members the kinds watch 0, watch 1, .. have, w of them
unfoldable pub total : List ℕ → (ℕ → ℕ) → ℕ → ℕ
total c watch zero = 0
total c watch (suc w) = total c watch w + get_or c (watch w) 0

-- the steps were served when the watched kinds had as many members as the mark says, less one
pub record Visited (q : Steps) (p mark : ℕ) (s c : List ℕ) : Type 0 where
  pub sets : List ℕ
  pub counts : List ℕ
  pub later : Kept q.kinds sets counts s c
  pub mark_is : mark ≡ suc (total counts (q.watch p) (q.watches p))
  pub served : Served q p sets counts s c

-- a mark of 0 says nothing
abbrev pub Marked : Steps → ℕ → ℕ → (s c : List ℕ) → Type 0
Marked q p mark s c = (mark ≡ 0) ⊎ Visited q p mark s c

-- of all productions: each was served since s₀, c₀; each has its mark; and what each gives is in
abbrev pub AllServed : Steps → (s₀ c₀ s c : List ℕ) → Type 0
AllServed q s₀ c₀ s c = (p : ℕ) → p < q.prods → Served q p s₀ c₀ s c

abbrev pub AllMarked : Steps → (marks s c : List ℕ) → Type 0
AllMarked q marks s c = (p : ℕ) → p < q.prods → Marked q p (get_or marks p 0) s c

abbrev pub Closed : Steps → (s c : List ℕ) → Type 0
Closed q s c = (p j x : ℕ) → p < q.prods → j < q.many p → q.step p j (Has s c) x → Has s c (q.into p j) x

-- a turn of a sweep, or a sweep: what it has come to, and marks that hold unless some set is over-full
pub record Attended (n : ℕ) (P : ℕ → ℕ → Type 0) (D : Type 0) (marks : List ℕ → List ℕ → Type 0) (s c s' c' : List ℕ) (r : Result Bool Full) : Type 0 where
  pub turned : Turned n P D s c s' c' r
  pub marked : OnOk r (marks s' c')

-- what sweeps leave once one adds nothing, or some set is over-full: all is in order, and C holds
pub record Swept (n : ℕ) (P : ℕ → ℕ → Type 0) (C : Type 0) (s c s' c' : List ℕ) (r : Result (Unit {0}) Full) : Type 0 where
  pub fine : Fine n P s' c'
  pub kept : Kept n s c s' c'
  pub closed : OnOk r C
  pub over : OnErr r (Over n P)

-- the sets hold exactly what has P
pub record Exact (n : ℕ) (P : ℕ → ℕ → Type 0) (s c : List ℕ) : Type 0 where
  pub fine : Fine n P s c
  pub whole : (k x : ℕ) → k < n → P k x → Has s c k x

-- what a pass leaves: the sets hold exactly what has P, or there is one more than a set can hold
pub record Outcome (n : ℕ) (P : ℕ → ℕ → Type 0) (s c s' c' : List ℕ) (r : Result (Unit {0}) Full) : Type 0 where
  pub holds : OnOk r (Holds n P s c s' c')
  pub over : OnErr r (Over n P)
