-- Dependences of a whole tree, and the chains of them, in either direction.
use Rattle.std.specs.Prelude.{◌≡◌, ◌⊎◌, ℕ, zero, suc, ◌+◌}
use Rattle.chains.specs.Grammar.{Occ, Grammar, Tied}
use Rattle.chains.specs.Tree.{Bush, nil, grow, size, Inst, At}

-- the reflexive, symmetric and transitive closure
pub data Eqv {X : Type 0} (R : X → X → Type 0) (x : X) : X → Type 0 where
  done : Eqv R x x
  fwd : {y z : X} → Eqv R x y → R y z → Eqv R x z
  bwd : {y z : X} → Eqv R x y → R z y → Eqv R x z

-- the dependences of the production instance at n
abbrev pub Own : Grammar → ℕ → ℕ → Bush → Inst → Inst → Type 0
Own G p n cs x y = (o : Occ) × (o' : Occ) × Tied G p o o' × At n cs o x × At n cs o' y

-- the dependences of a forest whose first node is n
abbrev pub Edge : Grammar → Bush → ℕ → Inst → Inst → Type 0
Edge G nil n x y = ⊥
Edge G (grow p cs rest) n x y = Own G p n cs x y ⊎ (Edge G cs (suc n) x y ⊎ Edge G rest (suc (n + size cs)) x y)

abbrev pub Chain : Grammar → Bush → ℕ → Inst → Inst → Type 0
Chain G f n = Eqv (Edge G f n)

-- a relation for slot 0, and one for each child
abbrev pub Slotwise : (ℕ → ℕ → Type 0) → (ℕ → ℕ → ℕ → Type 0) → ℕ → ℕ → ℕ → Type 0
Slotwise ρ σ zero = ρ
Slotwise ρ σ (suc j) = σ j

-- a production's dependences, and in each slot s what τ s relates: their closure is what both passes and the entries work out
abbrev pub Join : Grammar → ℕ → (ℕ → ℕ → ℕ → Type 0) → Occ → Occ → Type 0
Join G p τ o o' = Tied G p o o' ⊎ ((o.0 ≡ o'.0) × τ o.0 o.1 o'.1)

abbrev pub Closure : Grammar → ℕ → (ℕ → ℕ → ℕ → Type 0) → Occ → Occ → Type 0
Closure G p τ = Eqv (Join G p τ)

-- what a tree's own chains relate among its root's settings: p is the root's production, cs the children
abbrev pub RootChains : Grammar → ℕ → Bush → ℕ → ℕ → Type 0
RootChains G p cs a b = Chain G (grow p cs nil) 0 (0, a) (0, b)

-- what the chains of the whole tree f relate among the settings of its node i
abbrev pub NodeChains : Grammar → Bush → ℕ → ℕ → ℕ → Type 0
NodeChains G f i a b = Chain G f 0 (i, a) (i, b)
