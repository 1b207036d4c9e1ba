-- What the parts of the call promise each other when they give the numbers. No promise of the library cites this page.
use Rattle.std.specs.Prelude.{◌≡◌, true, false, Option, Some, None, List, [], ◌∷◌, ◌++◌, ℕ, ◌+◌, ◌*◌, ◌≤◌, ◌<◌, length, get_or, take, drop}
use Rattle.lists.specs.Pick.{pick}
use Rattle.lists.specs.Part.{part}
use Rattle.chains.specs.Limits.{max_settings, max_nodes}
use Rattle.chains.specs.Grammar.{Grammar}
use Rattle.chains.specs.Tree.{Bush, size}
use Rattle.sheet.specs.Reading.{all_settings}
use Rattle.ranks.specs.Entries.{byte_values}
use Rattle.numbering.specs.Walk.{Tables, tables, Held, holder, holds, held, numbered, unused, slot_labels, kid_labels, own_held, group_numbers}
use Rattle.numbering.specs.Promise.{lent, Grouped}
use Rattle.numbering.specs.Visits.{entry_in, visit}
use Rattle.numbering.specs.Nodes.{subtree_ends, first_settings, down_entries}
use Rattle.numbering.specs.Parts.{grammar_in, tables_in, TreeIn, Children, Ended, child_at, ChosenIn}
use Rattle.numbering.specs.declared.call.Call.{Call}
use Rattle.numbering.specs.declared.nodes.Node.{Node}
use Rattle.numbering.specs.declared.numbers.Holder.{Holder}

-- the three places of each node
abbrev pub rows : List Node → List ℕ
rows [] = []
rows (n ∷ ns) = n.plausible.0 ∷ n.feasible.0 ∷ n.entry ∷ rows ns

-- the place of each node's first setting among those of the sheet
pub record Placed (x : Call) (nodes : List Node) : Type 0 where
  pub each : (m : ℕ) → m < length x.sheet.now → get_or (first_settings nodes) m 0 ≡ all_settings (grammar_in x) (take m x.sheet.now)

-- ── who holds a label ──
abbrev pub labels_known : ℕ
labels_known = byte_values

abbrev pub nobody : Holder
nobody = record { stamp = 0; number = 0 }

abbrev pub stamp_at : List Holder → ℕ → ℕ
stamp_at holders x = (get_or holders x nobody).stamp

abbrev pub number_at : List Holder → ℕ → ℕ
number_at holders x = (get_or holders x nobody).number

-- the labels that hs holds are those stamped s, each with its first holder's number; no stamp is later than s
pub record Holding (hs : List Held) (s : ℕ) (holders : List Holder) : Type 0 where
  pub long : length holders ≡ labels_known
  pub latest : (x : ℕ) → stamp_at holders x ≤ s
  pub stamped : (x : ℕ) → x < labels_known → stamp_at holders x ≡ s → (holds x hs ≡ true) × ((n : ℕ) → holder x hs n ≡ number_at holders x)
  pub blank : (x : ℕ) → x < labels_known → (stamp_at holders x ≡ s → ⊥) → holds x hs ≡ false

-- one more occurrence, with its label x and the number n; r: the number of the label's holder, where there was one
pub record HeldOne (s x n : ℕ) (holders holders' : List Holder) (r : Option ℕ) : Type 0 where
  pub kept : length holders' ≡ length holders
  pub more : (hs : List Held) → Holding hs s holders → Holding (hs ++ (x, n) ∷ []) s holders' × (r ≡ pick (holds x hs) (Some (holder x hs n)) None)

-- slot 0 of a node, whose settings have the numbers ns
pub record HeldOwn (w : List ℕ) (e s : ℕ) (ns : List ℕ) (holders holders' : List Holder) : Type 0 where
  pub kept : length holders' ≡ length holders
  pub all : (hs : List Held) (c d u : List ℕ) → Holding hs s holders → Holding (hs ++ held (slot_labels (tables c d u w) e 0 0 (length ns)) ns) s holders'

-- a slot's settings, numbered: g before, g' after
pub record Slot (w : List ℕ) (e slot s next : ℕ) (holders : List Holder) (g : List ℕ) (holders' : List Holder) (g' : List ℕ) (r : ℕ) : Type 0 where
  pub few : r ≤ next + length g
  pub kept : length holders' ≡ length holders
  pub given : (hs : List Held) (c d u : List ℕ) → Holding hs s holders →
      let xs = slot_labels (tables c d u w) e slot 0 (length g) in
      Holding (hs ++ held xs (numbered hs next xs)) s holders' × (r ≡ unused hs next xs) × (g' ≡ numbered hs next xs)

-- ── a node's settings in the list of all ──
-- the settings of kinds, one after another
unfoldable pub kinds_width : Grammar → List ℕ → ℕ
kinds_width G [] = 0
kinds_width G (k ∷ ks) = G.settings k + kinds_width G ks

-- those of node m of the sheet l have the numbers ns in g
abbrev pub Written : Grammar → List ℕ → List ℕ → ℕ → List ℕ → Type 0
Written G l g m ns = part (all_settings G (take m l)) (G.settings (G.left (get_or l m 0))) g ≡ ns

-- the children of node i, of production p, are nodes of the sheet, of the kinds that p says
pub record Kinds (G : Grammar) (l ends : List ℕ) (i p : ℕ) : Type 0 where
  pub there : (j : ℕ) → j < length (G.kids p) → child_at ends i j < length l
  pub kind : (j : ℕ) → j < length (G.kids p) → G.left (get_or l (child_at ends i j) 0) ≡ get_or (G.kids p) j 0

-- F m are the numbers that node m is to have: those of the children of node i are parts of ns, one after another,
-- and they are put into g' while all others of g stay
abbrev pub Puts : Grammar → List ℕ → List ℕ → ℕ → ℕ → List ℕ → ℕ → List ℕ → List ℕ → Type 0
Puts G l ends i p ns k g g' = (F : ℕ → List ℕ)
    → ((j : ℕ) → j < length (G.kids p) → F (child_at ends i j) ≡ part (kinds_width G (take j (G.kids p))) (G.settings (get_or (G.kids p) j 0)) ns)
    → ((m : ℕ) → m < length l → Written G l g m (F m) → Written G l g' m (F m))
    × ((j : ℕ) → j < k → Written G l g' (child_at ends i j) (F (child_at ends i j)))

-- what the visit of node i needs: the node, its children, where all settings stand, and room for them
pub record Ready (x : Call) (nodes : List Node) (i next : ℕ) (g : List ℕ) : Type 0 where
  pub there : i < length x.sheet.now
  pub low : next ≤ max_settings * max_nodes
  pub children : Children (subtree_ends nodes) i (length ((grammar_in x).kids (get_or x.sheet.now i 0)))
  pub kinds_are : Kinds (grammar_in x) x.sheet.now (subtree_ends nodes) i (get_or x.sheet.now i 0)
  pub places_are : Placed x nodes
  pub room : all_settings (grammar_in x) x.sheet.now ≤ length g

-- node i is visited: its own settings hold their labels, then its children's settings are numbered
pub record Instance (x : Call) (nodes : List Node) (i next : ℕ) (holders : List Holder) (g : List ℕ) (holders' : List Holder) (g' : List ℕ) (r : ℕ) : Type 0 where
  pub kept : length holders' ≡ length holders
  pub long : length g' ≡ length g
  pub beyond : drop (all_settings (grammar_in x) x.sheet.now) g' ≡ drop (all_settings (grammar_in x) x.sheet.now) g
  pub latest : ((y : ℕ) → stamp_at holders y ≤ i + 1) → (y : ℕ) → stamp_at holders' y ≤ i + 2
  pub given : ((y : ℕ) → stamp_at holders y ≤ i + 1) → (own : List ℕ) → Written (grammar_in x) x.sheet.now g i own →
      let p = get_or x.sheet.now i 0 in
      let e = get_or (down_entries nodes) i 0 in
      let hs = own_held (grammar_in x) (tables_in x) p e own in
      let xs = kid_labels (grammar_in x) (tables_in x) e 1 ((grammar_in x).kids p) in
      (r ≡ unused hs next xs) × Puts (grammar_in x) x.sheet.now (subtree_ends nodes) i p (numbered hs next xs) (length ((grammar_in x).kids p)) g g'

-- entries has the down entry of each node
abbrev pub Entered : Grammar → Tables → Bush → List ℕ → Type 0
Entered G T f entries = (i : ℕ) → i < size f → get_or entries i 0 ≡ entry_in G T (visit G T f i)

-- what numbering the tree needs: where its subtrees end, and each node's entry
pub record Walkable (x : Call) (nodes : List Node) : Type 0 where
  pub tree_of : TreeIn x
  pub ended : Ended tree_of.tree 0 0 (subtree_ends nodes)
  pub entered : Entered (grammar_in x) (tables_in x) tree_of.tree (down_entries nodes)

pub record Given (x : Call) (nodes : List Node) (g g' : List ℕ) (r : ℕ) : Type 0 where
  pub all : (t : TreeIn x) → Ended t.tree 0 0 (subtree_ends nodes) → Entered (grammar_in x) (tables_in x) t.tree (down_entries nodes)
      → (r ≡ (group_numbers (grammar_in x) (tables_in x) t.tree).next)
      × (g' ≡ (group_numbers (grammar_in x) (tables_in x) t.tree).list ++ drop (all_settings (grammar_in x) x.sheet.now) g)

-- what is written once the choice is made
pub record Filled (x : Call) (nodes : List Node) (n g n' g' : List ℕ) (r : ℕ) : Type 0 where
  pub all : (t : TreeIn x) → ChosenIn x t.tree nodes
      → Grouped (grammar_in x) x.sheet.now (tables_in x) (lent n g) (lent n' g') (length x.sheet.now ∷ all_settings (grammar_in x) x.sheet.now ∷ r ∷ [])
