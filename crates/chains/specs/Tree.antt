-- Finite trees of fitted modules, of any size and depth. A node is its number in preorder.
use Rattle.std.specs.Prelude.{◌≡◌, ◌⊎◌, List, [], ◌∷◌, ◌++◌, ℕ, zero, suc, ◌+◌, ◌≤◌, ◌<◌}
use Rattle.chains.specs.Grammar.{Occ, Grammar, Heads}

-- a forest: no tree, or a first tree (its production, its children as a forest) and the other trees
pub data Bush : Type 0 where
  nil : Bush
  grow : ℕ → Bush → Bush → Bush

-- the number of nodes, and of trees
abbrev pub size : Bush → ℕ
size nil = 0
size (grow p cs rest) = suc (size cs + size rest)

abbrev pub count : Bush → ℕ
count nil = 0
count (grow p cs rest) = suc (count rest)

-- the productions in preorder
abbrev pub flat : Bush → List ℕ
flat nil = []
flat (grow p cs rest) = p ∷ (flat cs ++ flat rest)

-- the roots have the kinds ks, and below each node stand the children of its production
abbrev pub Kinded : Grammar → Bush → List ℕ → Type 0
Kinded G nil [] = Unit {0}
Kinded G nil (k ∷ ks) = ⊥
Kinded G (grow p cs rest) [] = ⊥
Kinded G (grow p cs rest) (k ∷ ks) = Heads G p k × Kinded G cs (G.kids p) × Kinded G rest ks

-- no node is deeper than the level top, the roots standing at level v
abbrev pub Shallow : ℕ → Bush → ℕ → Type 0
Shallow top nil v = Unit {0}
Shallow top (grow p cs rest) v = (v ≤ top) × Shallow top cs (suc v) × Shallow top rest v

-- m is the j-th root of the forest whose first node is n
abbrev pub Root : Bush → ℕ → ℕ → ℕ → Type 0
Root nil n j m = ⊥
Root (grow p cs rest) n zero m = m ≡ n
Root (grow p cs rest) n (suc j) m = Root rest (suc (n + size cs)) j m

-- m is the node in slot s of the production instance at n, whose children are cs
abbrev pub Slot : ℕ → Bush → ℕ → ℕ → Type 0
Slot n cs zero m = m ≡ n
Slot n cs (suc j) m = Root cs (suc n) j m

-- a setting of a node of the tree
abbrev pub Inst : Type 0
Inst = ℕ × ℕ

-- the occurrence o of the production instance at n is the setting x
abbrev pub At : ℕ → Bush → Occ → Inst → Type 0
At n cs o x = Slot n cs o.0 x.0 × (o.1 ≡ x.1)

-- node i of the forest at n has the production q and the children ds
abbrev pub Sub : Bush → ℕ → ℕ → ℕ → Bush → Type 0
Sub nil n i q ds = ⊥
Sub (grow p cs rest) n i q ds = ((i ≡ n) × (p ≡ q) × (cs ≡ ds)) ⊎ (Sub cs (suc n) i q ds ⊎ Sub rest (suc (n + size cs)) i q ds)

-- the nodes that are the roots of the forest at n
abbrev pub roots : Bush → ℕ → List ℕ
roots nil n = []
roots (grow p cs rest) n = n ∷ roots rest (suc (n + size cs))

-- x is a setting that a node of the forest at n has
abbrev pub Fitted : Grammar → Bush → ℕ → Inst → Type 0
Fitted G f n x = (q : ℕ) × (ds : Bush) × Sub f n x.0 q ds × (x.1 < G.settings (G.left q))
