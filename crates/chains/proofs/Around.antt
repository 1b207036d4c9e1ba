-- A forest in its surroundings. The whole tree's edges W stay fixed, and what is outside, O, grows from the root towards the node.
use mathlib.Core.Logic.{◌⊎◌, inl, inr}
use Prim.Native.Nat.{ℕ, zero, suc, ◌+◌}
use native.Mathlib.Omega.{arith}
use Rattle.chains.specs.Grammar.{Grammar}
use Rattle.chains.specs.Tree.{Bush, grow, size, Root, Slot, Inst}
use Rattle.chains.specs.Chain.{Own, Edge}
use Rattle.chains.proofs.Range.{In, Clear, root_in, edge_in, own_in}
use Rattle.chains.proofs.Forest.{Tree}
use Rattle.chains.proofs.Upward.{Nowhere}

-- if x is in the forest at all, it is a setting of a root
abbrev pub Touch : Bush → ℕ → Inst → Type 0
Touch f n x = In f n x.0 → (j : ℕ) × Root f n j x.0

-- W's edges are the forest's and the outer ones, which meet the forest at its roots only
pub record Around (G : Grammar) (W O : Inst → Inst → Type 0) (f : Bush) (n : ℕ) : Type 0 where
  pub split : (x y : Inst) → W x y → Edge G f n x y ⊎ O x y
  pub inner : (x y : Inst) → Edge G f n x y → W x y
  pub outer : (x y : Inst) → O x y → W x y
  pub touch : (x y : Inst) → O x y → Touch f n x × Touch f n y

-- around a whole tree there is nothing
pub around_all : (G : Grammar) (f : Bush) (n : ℕ) → Around G (Edge G f n) Nowhere f n
around_all G f n = record { split = λ x y e. inl e; inner = λ x y e. e; outer = λ x y e. absurd e; touch = λ x y e. absurd e }

-- what is around the first tree, around its children, and around the other trees
module _ (G : Grammar) (O : Inst → Inst → Type 0) (p n : ℕ) (cs rest : Bush) where
  abbrev pub Beside : Inst → Inst → Type 0
  Beside x y = Edge G rest (suc (n + size cs)) x y ⊎ O x y

  abbrev pub Above : Inst → Inst → Type 0
  Above x y = Own G p n cs x y ⊎ Beside x y

  abbrev pub Before : Inst → Inst → Type 0
  Before x y = Tree G p n cs x y ⊎ O x y

module _ (p n : ℕ) (cs rest : Bush) where
  -- what touches the forest is not below its first root, and touches the other trees
  pub free : (x : Inst) → Touch (grow p cs rest) n x → Clear n cs x
  free x t u = go (t (omega arith))
    where
      go : (j : ℕ) × Root (grow p cs rest) n j x.0 → ⊥
      go (zero, r) = omega arith
      go (suc j, r) = let h = root_in rest (suc (n + size cs)) j x.0 r in omega arith

  pub past : (x : Inst) → Touch (grow p cs rest) n x → Touch rest (suc (n + size cs)) x
  past x t u = go (t (omega arith))
    where
      go : (j : ℕ) × Root (grow p cs rest) n j x.0 → (j : ℕ) × Root rest (suc (n + size cs)) j x.0
      go (zero, r) = absurd (omega arith)
      go (suc j, r) = (j, r)

  slot_touch : (s : ℕ) (x : Inst) → Slot n cs s x.0 → Touch cs (suc n) x
  slot_touch zero x r u = absurd (omega arith)
  slot_touch (suc j) x r u = (j, r)

module _ (G : Grammar) (W O : Inst → Inst → Type 0) (p n : ℕ) (cs rest : Bush) (A : Around G W O (grow p cs rest) n) where
  -- ── the children of the first root in their surroundings ──
  pub apart : (x y : Inst) → W x y → Above G O p n cs rest x y ⊎ Edge G cs (suc n) x y
  apart x y w = go (A.split x y w)
    where
      go : Edge G (grow p cs rest) n x y ⊎ O x y → Above G O p n cs rest x y ⊎ Edge G cs (suc n) x y
      go (inl (inl e)) = inl (inl e)
      go (inl (inr (inl e))) = inr e
      go (inl (inr (inr e))) = inl (inr (inl e))
      go (inr e) = inl (inr (inr e))

  pub beside_clear : (x y : Inst) → Beside G O p n cs rest x y → Clear n cs x × Clear n cs y
  beside_clear x y (inl e) = let h = edge_in G rest (suc (n + size cs)) x y e in (λ u. omega arith, λ u. omega arith)
  beside_clear x y (inr e) = (free p n cs rest x (A.touch x y e).0, free p n cs rest y (A.touch x y e).1)

  above_touch : (x y : Inst) → Above G O p n cs rest x y → Touch cs (suc n) x × Touch cs (suc n) y
  above_touch x y (inl (o, o', b, hx, hy)) = (slot_touch p n cs rest o.0 x hx.0, slot_touch p n cs rest o'.0 y hy.0)
  above_touch x y (inr e) = let (h, h') = beside_clear x y e in (λ u. absurd (h u), λ u. absurd (h' u))

  pub above_outer : (x y : Inst) → Above G O p n cs rest x y → W x y
  above_outer x y (inl e) = A.inner x y (inl e)
  above_outer x y (inr (inl e)) = A.inner x y (inr (inr e))
  above_outer x y (inr (inr e)) = A.outer x y e

  turn : {P Q : Type 0} → P ⊎ Q → Q ⊎ P
  turn (inl x) = inr x
  turn (inr y) = inl y

  pub around_children : Around G W (Above G O p n cs rest) cs (suc n)
  around_children = record { split = λ x y w. turn (apart x y w); inner = λ x y e. A.inner x y (inr (inl e)); outer = above_outer; touch = above_touch }

  -- ── the other trees in their surroundings ──
  before_split : (x y : Inst) → W x y → Edge G rest (suc (n + size cs)) x y ⊎ Before G O p n cs rest x y
  before_split x y w = go (A.split x y w)
    where
      go : Edge G (grow p cs rest) n x y ⊎ O x y → Edge G rest (suc (n + size cs)) x y ⊎ Before G O p n cs rest x y
      go (inl (inl e)) = inr (inl (inl e))
      go (inl (inr (inl e))) = inr (inl (inr e))
      go (inl (inr (inr e))) = inl e
      go (inr e) = inr (inr e)

  before_touch : (x y : Inst) → Before G O p n cs rest x y → Touch rest (suc (n + size cs)) x × Touch rest (suc (n + size cs)) y
  before_touch x y (inl (inl e)) = let h = own_in G p n cs x y e in (λ u. absurd (omega arith), λ u. absurd (omega arith))
  before_touch x y (inl (inr e)) = let h = edge_in G cs (suc n) x y e in (λ u. absurd (omega arith), λ u. absurd (omega arith))
  before_touch x y (inr e) = (past p n cs rest x (A.touch x y e).0, past p n cs rest y (A.touch x y e).1)

  before_outer : (x y : Inst) → Before G O p n cs rest x y → W x y
  before_outer x y (inl (inl e)) = A.inner x y (inl e)
  before_outer x y (inl (inr e)) = A.inner x y (inr (inl e))
  before_outer x y (inr e) = A.outer x y e

  pub around_rest : Around G W (Before G O p n cs rest) rest (suc (n + size cs))
  around_rest = record { split = before_split; inner = λ x y e. A.inner x y (inr (inr e)); outer = before_outer; touch = before_touch }
