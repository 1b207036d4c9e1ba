-- A visit of a production: choices of codes for its slots, in turn, and what comes of all of them, step by step as it is worked out.
use Rattle.std.specs.Prelude.{◌≡◌, ◌⊎◌, Bool, List, [], Result, OnOk, ℕ, zero, suc, ◌+◌, ◌≤◌, ◌<◌, eqb, length, get_or, set}
use Rattle.lists.specs.Pick.{pick}
use Rattle.lists.specs.Part.{place}
use Rattle.chains.specs.Limits.{max_settings, max_kids, max_members}
use Rattle.chains.specs.Labels.{joins}
use Rattle.chains.specs.State.{dropped, code_on, code_pairs}
use Rattle.book.specs.Reading.{kind_in}
use Rattle.members.specs.Sets.{members, Has, member}
use Rattle.tables.specs.Memory.{Fine, Turned}
use Rattle.tables.specs.State.{State, Whole, Readable, width_in, based, tidied}
use Rattle.tables.specs.Seen.{Stored}
use Rattle.tables.specs.declared.seen.Level.{Level}
use Rattle.members.specs.declared.Full.{Full}
use Rattle.tables.specs.declared.visit.Turn.{Turn}
use Rattle.tables.specs.declared.visit.Visit.{Visit}

-- the slots that a production can have, and as many turns
abbrev pub max_turns : ℕ
max_turns = suc max_kids

-- turn j: its slot, the slot's number of settings, the number of codes and these
abbrev pub no_turn : Turn
no_turn = record { slot = 0; width = 0; size = 0; codes = [] }

abbrev pub turn_of : Visit → ℕ → Turn
turn_of v j = get_or v.turns j no_turn

abbrev pub slot_of : Visit → ℕ → ℕ
slot_of v j = (turn_of v j).slot

abbrev pub width_of : Visit → ℕ → ℕ
width_of v j = (turn_of v j).width

abbrev pub size_of : Visit → ℕ → ℕ
size_of v j = (turn_of v j).size

-- the i-th code of turn j
abbrev pub code_of : Visit → ℕ → ℕ → ℕ
code_of v j i = get_or (turn_of v j).codes i 0

-- slot t dropped from the state s, unless the results are seen on it
abbrev pub released : ℕ → ℕ → List ℕ → List ℕ
released t target s = pick (eqb t target) s (dropped t s)

-- the state s once turn j has chosen the code c: tied to its slot, the slot released, the labels made tidy
abbrev pub tied : Visit → ℕ → ℕ → List ℕ → List ℕ
tied v j c s = joins s (code_pairs (slot_of v j) (width_of v j) c)

unfoldable pub chosen : Visit → ℕ → ℕ → List ℕ → List ℕ
chosen v j c s = tidied (released (slot_of v j) v.target (tied v j c s))

-- x comes of s by some choices for the turns before j
unfoldable pub Yields : Visit → ℕ → List ℕ → ℕ → Type 0
Yields v zero s x = x ≡ code_on v.target v.width s
Yields v (suc j) s x = (i : ℕ) × (i < size_of v j) × Yields v j (chosen v j (code_of v j i) s) x

-- turns 0 to j - 1 have slots of their own, within the limits
pub record Ready (v : Visit) (j : ℕ) : Type 0 where
  pub target : v.target ≤ max_kids
  pub width : v.width ≤ max_settings
  pub few : j ≤ max_turns
  pub slots : (i : ℕ) → i < j → slot_of v i ≤ max_kids
  pub widths : (i : ℕ) → i < j → width_of v i ≤ max_settings
  pub sizes : (i : ℕ) → i < j → size_of v i ≤ max_members
  pub apart : (i k : ℕ) → i < k → k < j → slot_of v i ≡ slot_of v k → ⊥

-- in s all settings are there that turns 0 to j - 1 tie, and those that are looked at
pub record Standing (v : Visit) (j : ℕ) (s : List ℕ) : Type 0 where
  pub state : State s
  pub looked_at : Whole s v.target v.width
  pub ahead : (i : ℕ) → i < j → Whole s (slot_of v i) (width_of v i)

-- all that has Q is in kind k's set
abbrev pub Gathered : ℕ → (ℕ → Type 0) → List ℕ → List ℕ → Type 0
Gathered k Q s c = (x : ℕ) → Q x → Has s c k x

-- what the sets had, and for kind k what has Q
abbrev pub OldOr : List ℕ → List ℕ → ℕ → (ℕ → Type 0) → ℕ → ℕ → Type 0
OldOr s c k Q j x = Has s c j x ⊎ ((j ≡ k) × Q x)

-- what is left once all that has Q was put into kind k's set; for however many kinds the sets were in order
abbrev pub Gathers : ℕ → (ℕ → Type 0) → (s c s' c' : List ℕ) → Result Bool Full → Type 0
Gathers k Q s c s' c' r = (n : ℕ) → k < n → Fine n (Has s c) s c → Turned n (OldOr s c k Q) (Gathered k Q s' c') s c s' c' r

-- the sets are in order, for some number of kinds, of which k is one
pub record InOrder (k : ℕ) (s c : List ℕ) : Type 0 where
  pub kinds : ℕ
  pub below : k < kinds
  pub fine : Fine kinds (Has s c) s c

-- all that comes of a state kept among those seen is in the set
abbrev pub Done : Visit → List ℕ → List ℕ → ℕ → List ℕ → Type 0
Done v s c j u = Gathered v.kind (Yields v j u) s c

-- what gathering from the state u asks
pub record Request (v : Visit) (j : ℕ) (u : List ℕ) (kept : List Level) (s c : List ℕ) : Type 0 where
  pub ready : Ready v j
  pub standing : Standing v j u
  pub order : InOrder v.kind s c
  pub seen : Stored (Done v s c) kept

-- and what it leaves
pub record Reply (v : Visit) (j : ℕ) (u s c : List ℕ) (kept' : List Level) (s' c' : List ℕ) (r : Result Bool Full) : Type 0 where
  pub turned : Gathers v.kind (Yields v j u) s c s' c' r
  pub seen : OnOk r (Stored (Done v s' c') kept')

-- ── a visit made ready, off the production entry at the place at of the book b ──
-- v with one turn more, given to a slot, with the codes of that slot's kind, off the sets s with the counts c
pub record Opened (b : List ℕ) (at : ℕ) (s c : List ℕ) (v : Visit) (slot : ℕ) (v' : Visit) : Type 0 where
  pub turns_now : v'.turns ≡ set v.turns v.opened
      (record { slot = slot; width = width_in b at slot; size = get_or c (kind_in b at slot) 0; codes = place 0 (members s c (kind_in b at slot)) (turn_of v v.opened).codes })
  pub opened_now : v'.opened ≡ v.opened + 1
  pub rest : (v'.target ≡ v.target) × (v'.width ≡ v.width) × (v'.kind ≡ v.kind)

-- turn i has a slot, with its settings and the codes of its kind
pub record TurnGiven (b : List ℕ) (at : ℕ) (s c : List ℕ) (v : Visit) (i slot : ℕ) : Type 0 where
  pub slot_is : slot_of v i ≡ slot
  pub width_is : width_of v i ≡ width_in b at slot
  pub size_is : size_of v i ≡ get_or c (kind_in b at slot) 0
  pub few : size_of v i ≤ max_members
  pub codes_are : (r : ℕ) → r < size_of v i → code_of v i r ≡ member s (kind_in b at slot) r

-- there are places for all turns, and for all codes of each
pub record Sized (v : Visit) : Type 0 where
  pub turns : length v.turns ≡ max_turns
  pub codes : (i : ℕ) → i < max_turns → length (turn_of v i).codes ≡ max_members

-- the results are seen on slot t, and turn i, for each i of the j that are opened, has the slot σ i, with the codes of its kind off the sets S i with
-- the counts C i
pub record Opening (b : List ℕ) (at t : ℕ) (σ : ℕ → ℕ) (S C : ℕ → List ℕ) (v : Visit) (j : ℕ) : Type 0 where
  pub sized : Sized v
  pub opened : v.opened ≡ j
  pub target : v.target ≡ t
  pub width : v.width ≡ width_in b at t
  pub kind : v.kind ≡ kind_in b at t
  pub taken : (i : ℕ) → i < j → TurnGiven b at (S i) (C i) v i (σ i)

-- some turn before j has no code to choose
abbrev pub Barren : Visit → ℕ → Type 0
Barren v j = (i : ℕ) × (i < j) × (size_of v i ≡ 0)

-- what a visit asks
pub record Prepared (b : List ℕ) (at : ℕ) (v : Visit) (s c : List ℕ) : Type 0 where
  pub readable : Readable b at
  pub ready : Ready v v.opened
  pub standing : Standing v v.opened (based b at)
  pub order : InOrder v.kind s c
