-- What the parts of the call promise each other on the way to the entries. No promise of the library cites this page.
use Rattle.std.specs.Prelude.{◌≡◌, ◌⊎◌, Bool, true, false, Option, Some, None, Result, Ok, Err, List, ℕ, zero, suc, ◌+◌, ◌-◌, ◌≤◌, ◌<◌, ltb, length, get_or}
use Rattle.lists.specs.Pick.{pick}
use Rattle.refusals.specs.Table.{number_of}
use Rattle.refusals.specs.declared.Refused.{Refused}
use Rattle.chains.specs.Limits.{max_kids, max_nodes}
use Rattle.chains.specs.Grammar.{Grammar}
use Rattle.chains.specs.Tree.{Bush, size, Sub}
use Rattle.book.specs.Format.{grammar}
use Rattle.ranks.specs.Entries.{up_start, down_start, none}
use Rattle.ranks.specs.Reads.{child_rank_at}
use Rattle.ranks.specs.declared.Plausible.{Plausible}
use Rattle.numbering.specs.Walk.{Tables, tables}
use Rattle.numbering.specs.Promise.{TreeOf, BadUp, BadRoot, BadDown, entry_at}
use Rattle.numbering.specs.Visits.{rank_of, entry_in, visit}
use Rattle.numbering.specs.Nodes.{plausible_ranks, feasible_ranks, subtree_ends, down_entries, SameUpward, OnlyFeasible}
use Rattle.numbering.specs.declared.call.Call.{Call}
use Rattle.numbering.specs.declared.call.Tables as declared
use Rattle.numbering.specs.declared.nodes.Node.{Node}

-- ── what a call goes by ──
abbrev pub grammar_in : Call → Grammar
grammar_in x = grammar x.book.now

abbrev pub tables_of : declared.Tables → Tables
tables_of t = tables t.plausible_counts.now t.feasible_counts.now t.up.now t.down.now

abbrev pub tables_in : Call → Tables
tables_in x = tables_of x.tables

abbrev pub TreeIn : Call → Type 0
TreeIn x = TreeOf (grammar_in x) x.sheet.now

-- a sheet that is a tree of the book
pub record Sheeted (b l : List ℕ) : Type 0 where
  pub tree_of : TreeOf (grammar b) l
  pub some : 1 ≤ length l
  pub few : length l ≤ max_nodes

-- ── where the productions' entries begin ──
pub record Starts (x : Call) (S : ℕ → ℕ) (starts : List ℕ) : Type 0 where
  pub each : (p : ℕ) → p < (grammar_in x).prods → get_or starts p 0 ≡ S p

abbrev pub up_start_in : Call → ℕ → ℕ
up_start_in x = up_start (grammar_in x) x.tables.plausible_counts.now

abbrev pub down_start_in : Call → ℕ → ℕ
down_start_in x = down_start (grammar_in x) x.tables.plausible_counts.now x.tables.feasible_counts.now

abbrev pub UpStarts : Call → List ℕ → Type 0
UpStarts x = Starts x (up_start_in x)

abbrev pub DownStarts : Call → List ℕ → Type 0
DownStarts x = Starts x (down_start_in x)

-- ── a node's children ──
-- where child j of the node i stands: the first right after it, and each further one where the subtree of the one before it ends
unfoldable pub child_at : List ℕ → ℕ → ℕ → ℕ
child_at ends i zero = suc i
child_at ends i (suc j) = get_or ends (child_at ends i j) 0

-- the first k children of the node i stand within the list, and so does the last one's end
pub record Children (ends : List ℕ) (i k : ℕ) : Type 0 where
  pub few : k ≤ max_kids
  pub inside : i < max_nodes
  pub each : (j : ℕ) → j < k → child_at ends i j < max_nodes
  pub last : child_at ends i k ≤ max_nodes

-- rs has the ranks of the first k children, then 0; end is where the last of them ends
pub record Kindred (plausible ends : List ℕ) (i k : ℕ) (rs : List ℕ) (end : ℕ) : Type 0 where
  pub long : length rs ≡ max_kids
  pub each : (j : ℕ) → j < max_kids → get_or rs j 0 ≡ pick (ltb j k) (get_or plausible (child_at ends i j) 0) 0
  pub end_is : end ≡ child_at ends i k

-- ── upward ──
-- what is known of the nodes of the forest f at n, from node k on: where each subtree ends, and its plausible rank
abbrev pub Ended : Bush → ℕ → ℕ → List ℕ → Type 0
Ended f n k ends = (i q : ℕ) (ds : Bush) → Sub f n i q ds → k ≤ i → get_or ends i 0 ≡ suc (i + size ds)

abbrev pub Ranked : Grammar → Tables → Bush → ℕ → ℕ → List ℕ → Type 0
Ranked G T f n k plausible = (i q : ℕ) (ds : Bush) → Sub f n i q ds → k ≤ i → get_or plausible i 0 ≡ rank_of G T q ds

-- no upward read of a node from k on is bad
abbrev pub NoBadUp : Grammar → Tables → Bush → ℕ → Type 0
NoBadUp G T f k = (i q : ℕ) (ds : Bush) → Sub f 0 i q ds → k ≤ i → BadUp G T q ds → ⊥

-- the read at a node of production p, of the up entry e: its own rank; none where it is bad
abbrev pub UpNodeIs : Call → ℕ → ℕ → Option Plausible → Type 0
UpNodeIs x p e (Some r) = (e < length x.tables.up.now) × (r.0 ≡ get_or x.tables.up.now e none)
    × (r.0 < get_or x.tables.plausible_counts.now ((grammar_in x).left p) 0)
UpNodeIs x p e None = (length x.tables.up.now ≤ e) ⊎ (get_or x.tables.plausible_counts.now ((grammar_in x).left p) 0 ≤ get_or x.tables.up.now e none)

-- a read that fails is answered with 25
abbrev pub Is25 : Refused → Type 0
Is25 r = number_of r.refusal ≡ 25

abbrev pub UpIs : Grammar → Tables → Bush → List ℕ → List ℕ → Result (Unit {0}) Refused → Type 0
UpIs G T f plausible ends (Ok u) = NoBadUp G T f 0 × Ranked G T f 0 0 plausible × Ended f 0 0 ends
UpIs G T f plausible ends (Err r) = Is25 r × ((q : ℕ) × (ds : Bush) × Sub f 0 r.place q ds × BadUp G T q ds) × NoBadUp G T f (suc r.place)

pub record UpReads (x : Call) (nodes : List Node) (r : Result (Unit {0}) Refused) : Type 0 where
  pub case : (t : TreeIn x) → UpIs (grammar_in x) (tables_in x) t.tree (plausible_ranks nodes) (subtree_ends nodes) r

-- ── downward ──
-- whether each child of a node with production p has got its feasible rank from the entry e; F m is the rank that node m is to have
abbrev pub HandedIs : Grammar → Tables → ℕ → ℕ → List ℕ → ℕ → List ℕ → List ℕ → Bool → Type 0
HandedIs G T e p ends i s s' true =
    ((j : ℕ) → j < length (G.kids p) → child_rank_at T.down e j < get_or T.feasible_counts (get_or (G.kids p) j 0) 0)
    × ((F : ℕ → ℕ) → ((j : ℕ) → j < length (G.kids p) → F (child_at ends i j) ≡ child_rank_at T.down e j)
    → ((m : ℕ) → get_or s m 0 ≡ F m → get_or s' m 0 ≡ F m) × ((j : ℕ) → j < length (G.kids p) → get_or s' (child_at ends i j) 0 ≡ F (child_at ends i j)))
HandedIs G T e p ends i s s' false =
    (j : ℕ) × (j < length (G.kids p)) × (get_or T.feasible_counts (get_or (G.kids p) j 0) 0 ≤ child_rank_at T.down e j)

pub record HandedDown (x : Call) (i p e : ℕ) (nodes nodes' : List Node) (r : Bool) : Type 0 where
  pub only : OnlyFeasible nodes nodes'
  pub case : HandedIs (grammar_in x) (tables_in x) e p (subtree_ends nodes) i (feasible_ranks nodes) (feasible_ranks nodes') r

-- node m has the feasible rank that the walk gives it
abbrev pub RightRank : Grammar → Tables → Bush → List ℕ → ℕ → Type 0
RightRank G T f feasible m = get_or feasible m 0 ≡ (visit G T f m).feasible

-- the read at node i
abbrev pub DownNodeIs : Grammar → Tables → Bush → ℕ → ℕ → List ℕ → List ℕ → List ℕ → Option ℕ → Type 0
DownNodeIs G T f i p ends s s' (Some e) = (e ≡ entry_in G T (visit G T f i)) × (BadDown G T p (entry_in G T (visit G T f i)) → ⊥)
    × ((m : ℕ) → RightRank G T f s m → RightRank G T f s' m)
    × ((j : ℕ) → j < length (G.kids p) → RightRank G T f s' (child_at ends i j))
DownNodeIs G T f i p ends s s' None = BadDown G T p (entry_in G T (visit G T f i))

pub record DownNodeRead (x : Call) (i p : ℕ) (nodes nodes' : List Node) (r : Option ℕ) : Type 0 where
  pub only : OnlyFeasible nodes nodes'
  pub case : (t : TreeIn x) (ds : Bush) → Sub t.tree 0 i p ds → Ended t.tree 0 0 (subtree_ends nodes)
      → Ranked (grammar_in x) (tables_in x) t.tree 0 0 (plausible_ranks nodes) → RightRank (grammar_in x) (tables_in x) t.tree (feasible_ranks nodes) i
      → DownNodeIs (grammar_in x) (tables_in x) t.tree i p (subtree_ends nodes) (feasible_ranks nodes) (feasible_ranks nodes') r

abbrev pub NoBadDown : Grammar → Tables → Bush → ℕ → Type 0
NoBadDown G T f k = (i q : ℕ) (ds : Bush) → Sub f 0 i q ds → i < k → BadDown G T q (entry_at G T f i) → ⊥

abbrev pub DownIs : Grammar → Tables → Bush → List ℕ → List ℕ → Result (Unit {0}) Refused → Type 0
DownIs G T f feasible entries (Ok u) = NoBadDown G T f (size f)
    × ((i : ℕ) → i < size f → RightRank G T f feasible i) × ((i : ℕ) → i < size f → get_or entries i 0 ≡ entry_in G T (visit G T f i))
DownIs G T f feasible entries (Err r) = Is25 r × ((q : ℕ) × (ds : Bush) × Sub f 0 r.place q ds × BadDown G T q (entry_at G T f r.place)) × NoBadDown G T f r.place

pub record DownReads (x : Call) (nodes nodes' : List Node) (r : Result (Unit {0}) Refused) : Type 0 where
  pub upward : SameUpward nodes nodes'
  pub case : (t : TreeIn x) → Ended t.tree 0 0 (subtree_ends nodes) → Ranked (grammar_in x) (tables_in x) t.tree 0 0 (plausible_ranks nodes)
      → RightRank (grammar_in x) (tables_in x) t.tree (feasible_ranks nodes) 0
      → DownIs (grammar_in x) (tables_in x) t.tree (feasible_ranks nodes') (down_entries nodes') r

-- ── all reads ──
-- a read that fails: its place, and its turn among the reads of n nodes
pub data Fails (G : Grammar) (T : Tables) (f : Bush) (n : ℕ) : ℕ → ℕ → Type 0 where
  upward : (i q : ℕ) (ds : Bush) → Sub f 0 i q ds → BadUp G T q ds → Fails G T f n i (n - i)
  root : BadRoot G T f → Fails G T f n 0 (n + 1)
  downward : (i q : ℕ) (ds : Bush) → Sub f 0 i q ds → BadDown G T q (entry_at G T f i) → Fails G T f n i (n + 2 + i)

-- what the arrays have of each node once every read is good
pub record Chosen (G : Grammar) (T : Tables) (f : Bush) (plausible ends feasible entries : List ℕ) : Type 0 where
  pub ranked : Ranked G T f 0 0 plausible
  pub ended : Ended f 0 0 ends
  pub right : (i : ℕ) → i < size f → RightRank G T f feasible i
  pub entered : (i : ℕ) → i < size f → get_or entries i 0 ≡ entry_in G T (visit G T f i)

abbrev pub ChosenIn : Call → Bush → List Node → Type 0
ChosenIn x f nodes = Chosen (grammar_in x) (tables_in x) f (plausible_ranks nodes) (subtree_ends nodes) (feasible_ranks nodes) (down_entries nodes)

abbrev pub ChoiceIs : Call → Bush → List Node → Result (Unit {0}) Refused → Type 0
ChoiceIs x f nodes (Ok u) = ((p t : ℕ) → Fails (grammar_in x) (tables_in x) f (size f) p t → ⊥) × ChosenIn x f nodes
ChoiceIs x f nodes (Err r) =
    Is25 r × (t : ℕ) × Fails (grammar_in x) (tables_in x) f (size f) r.place t × ((p' t' : ℕ) → t' < t → Fails (grammar_in x) (tables_in x) f (size f) p' t' → ⊥)

pub record Choice (x : Call) (nodes : List Node) (r : Result (Unit {0}) Refused) : Type 0 where
  pub case : (t : TreeIn x) → ChoiceIs x t.tree nodes r
