-- DEMAND 3: one vehicle, and the same with one subtree replaced by another that groups its root's settings, by its own chains, in the same way.
use Rattle.std.specs.Prelude.{◌≡◌, ◌↔◌, List, [], ◌∷◌, ◌++◌, ℕ, ◌<◌, length}
use Rattle.chains.specs.Grammar.{Grammar}
use Rattle.chains.specs.Tree.{Bush, nil, grow, size, flat, Kinded, Inst, Fitted}
use Rattle.chains.specs.Replace.{Moves, Shifts, Interchange}
use Rattle.numbering.specs.Promise.{Lent, TreeOf}
use Rattle.numbering.specs.Places.{plausible_rank, feasible_rank, down_entry_of, number_of}

-- the sheets l and l' are alike but for the subtree of one node, the one behind pre
pub record Replacement (G : Grammar) (l l' : List ℕ) : Type 0 where
  pub pre : List ℕ
  pub post : List ℕ
  -- the root's production of either subtree, and the children
  pub prod : ℕ
  pub prod' : ℕ
  pub kids : Bush
  pub kids' : Bush
  pub kinded : Kinded G (grow prod kids nil) (G.left prod ∷ [])
  pub kinded' : Kinded G (grow prod' kids' nil) (G.left prod' ∷ [])
  pub reads : l ≡ pre ++ (flat (grow prod kids nil) ++ post)
  pub reads' : l' ≡ pre ++ (flat (grow prod' kids' nil) ++ post)
  -- by their own chains, both group the settings of that node in the same way
  pub agree : Interchange G prod prod' kids kids'

-- node i of the one vehicle, not below the replaced subtree's root, is node i' of the other
abbrev pub Outside : {G : Grammar} {l l' : List ℕ} → Replacement G l l' → ℕ → ℕ → Type 0
Outside r i i' = Moves (length r.pre) (size r.kids) (size r.kids') i i'

-- the setting x of the one vehicle is x' of the other
abbrev pub OutsideSetting : {G : Grammar} {l l' : List ℕ} → Replacement G l l' → Inst → Inst → Type 0
OutsideSetting r x x' = Shifts (length r.pre) (size r.kids) (size r.kids') x x'

-- n and n' are what the two sheet calls left, t the tree of the first sheet
pub record Unchanged {G : Grammar} {l l' : List ℕ} (r : Replacement G l l') (t : TreeOf G l) (n n' : Lent) : Type 0 where
  -- every node outside, the replaced subtree's root included, has the same plausible and the same feasible rank
  pub plausible : (i i' : ℕ) → i < length l → Outside r i i' → plausible_rank n.nodes i ≡ plausible_rank n'.nodes i'
  pub feasible : (i i' : ℕ) → i < length l → Outside r i i' → feasible_rank n.nodes i ≡ feasible_rank n'.nodes i'
  -- every node outside but that root has the same down entry, its grouping over its production
  pub entry : (i i' : ℕ) → i < length l → (i ≡ length r.pre → ⊥) → Outside r i i' → down_entry_of n.nodes i ≡ down_entry_of n'.nodes i'
  -- any two settings outside, that node's own included, share a group in the one vehicle exactly when they do in the other
  pub shared : (x y x' y' : Inst) → Fitted G t.tree 0 x → Fitted G t.tree 0 y → OutsideSetting r x x' → OutsideSetting r y y'
      → (number_of G l n.groups x ≡ number_of G l n.groups y) ↔ (number_of G l' n'.groups x' ≡ number_of G l' n'.groups y')
