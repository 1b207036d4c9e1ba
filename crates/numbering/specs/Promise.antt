-- What the sheet call promises: refusals 1 to 9 and 20 to 25, and all lent memory.
use Rattle.std.specs.Prelude.{◌≡◌, ◌⊎◌, List, [], ◌∷◌, ◌++◌, ℕ, suc, ◌+◌, ◌-◌, ◌*◌, ◌≤◌, ◌<◌, length, get_or, drop}
use Rattle.lists.specs.Refusals.{Said, accepted, refused, First}
use Rattle.chains.specs.Limits.{max_members}
use Rattle.chains.specs.Grammar.{Grammar}
use Rattle.chains.specs.Tree.{Bush, Kinded, flat, Sub}
use Rattle.book.specs.Format.{grammar}
use Rattle.sheet.specs.Reading.{all_settings}
use Rattle.sheet.specs.Refusals as sheet
use Rattle.admission.specs.Refusals.{ShortCounts, ShortRoom, stage}
use Rattle.ranks.specs.Entries.{up_entry, entry_bytes, none}
use Rattle.numbering.specs.Walk.{Tables, ranks, given, places, started, group_numbers}

-- all memory that is lent to a sheet call
pub record Lent : Type 0 where
  pub nodes : List ℕ
  pub groups : List ℕ

abbrev pub lent : List ℕ → List ℕ → Lent
lent n g = record { nodes = n; groups = g }

-- the tree of the sheet l
pub record TreeOf (G : Grammar) (l : List ℕ) : Type 0 where
  pub tree : Bush
  pub kinded : Kinded G tree (G.start ∷ [])
  pub reads : flat tree ≡ l

-- ── what 25 looks for ──
-- a count over 64
abbrev pub BigCount : Grammar → Tables → Type 0
BigCount G T = (k : ℕ) × (k < G.kinds) × ((max_members < get_or T.plausible_counts k 0) ⊎ (max_members < get_or T.feasible_counts k 0))

-- upward, at a node with the production q and the children ds: an entry past its slice, or a rank not below its count
abbrev pub BadUp : Grammar → Tables → ℕ → Bush → Type 0
BadUp G T q ds = (length T.up ≤ up_entry G T.plausible_counts q (ranks G T ds))
    ⊎ (get_or T.plausible_counts (G.left q) 0 ≤ get_or T.up (up_entry G T.plausible_counts q (ranks G T ds)) none)

-- the root's feasible rank is not below its count
abbrev pub BadRoot : Grammar → Tables → Bush → Type 0
BadRoot G T f = get_or T.feasible_counts G.start 0 ≤ started G T f 0

-- downward, at a node with the production q and the down entry e: an entry past its slice, or a child's rank not below its count
abbrev pub BadDown : Grammar → Tables → ℕ → ℕ → Type 0
BadDown G T q e = (length T.down < suc e * entry_bytes)
    ⊎ ((j : ℕ) × (j < length (G.kids q)) × (get_or T.feasible_counts (get_or (G.kids q) j 0) 0 ≤ given T e j))

-- the down entry of node i
abbrev pub entry_at : Grammar → Tables → Bush → ℕ → ℕ
entry_at G T f i = get_or (places G T f (started G T f)) (3 * i + 2) 0

-- Applies b l T m n p t: refusal n has its condition met at the place p, looked for at the turn t among those of its number
pub data Applies (b l : List ℕ) (T : Tables) (m : Lent) : ℕ → ℕ → ℕ → Type 0 where
  of_sheet : {n p : ℕ} → sheet.Applies b l n p → Applies b l T m n p p
  short_counts : ShortCounts b (length T.plausible_counts) (length T.feasible_counts) → Applies b l T m 9 0 0
  short_room : ShortRoom b l (length m.nodes) (length m.groups) → Applies b l T m 24 0 0
  big_count : BigCount (grammar b) T → Applies b l T m 25 0 0
  bad_up : (t : TreeOf (grammar b) l) (i q : ℕ) (ds : Bush) → Sub t.tree 0 i q ds → BadUp (grammar b) T q ds → Applies b l T m 25 i (length l - i)
  bad_root : (t : TreeOf (grammar b) l) → BadRoot (grammar b) T t.tree → Applies b l T m 25 0 (length l + 1)
  bad_down : (t : TreeOf (grammar b) l) (i q : ℕ) (ds : Bush) → Sub t.tree 0 i q ds → BadDown (grammar b) T q (entry_at (grammar b) T t.tree i)
      → Applies b l T m 25 i (length l + 2 + i)

-- rows go by number, 21 to 23 together by place; within 25 counts come first, then upward reads from the last node, the root, downward reads from the first
abbrev pub Fault : Type 0
Fault = ℕ × ℕ × ℕ

abbrev pub turn : Fault → List ℕ
turn f = stage f.0 ∷ f.2 ∷ f.0 ∷ f.1 ∷ []

-- THE PROMISE of a sheet call: what it says, and what it leaves of the memory m
pub record Grouped (G : Grammar) (l : List ℕ) (T : Tables) (m m' : Lent) (counts : List ℕ) : Type 0 where
  pub of : TreeOf G l
  pub nodes : m'.nodes ≡ places G T of.tree (started G T of.tree) ++ drop (3 * length l) m.nodes
  pub groups : m'.groups ≡ (group_numbers G T of.tree).list ++ drop (all_settings G l) m.groups
  pub counted : counts ≡ length l ∷ all_settings G l ∷ (group_numbers G T of.tree).next ∷ []

abbrev pub CallDue : List ℕ → List ℕ → Tables → Lent → Said → Lent → Type 0
CallDue b l T m (accepted counts) m' = ((n p t : ℕ) → Applies b l T m n p t → ⊥) × Grouped (grammar b) l T m m' counts
CallDue b l T m (refused n p) m' = ((t : ℕ) × First turn (λ (f : Fault). Applies b l T m f.0 f.1 f.2) (n, p, t)) × (m' ≡ m)
