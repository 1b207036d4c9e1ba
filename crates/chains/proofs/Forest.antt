-- The trees of a forest are apart: no chain leads from one to another.
use mathlib.Core.Path.{◌≡◌, refl, ap}
use mathlib.Core.Logic.{◌⊎◌, inl, inr}
use Prim.Native.Nat.{ℕ, zero, suc, ◌+◌}
use native.Mathlib.Omega.{arith}
use Rattle.chains.specs.Grammar.{Grammar}
use Rattle.chains.specs.Tree.{Bush, nil, grow, size, Root, Inst}
use Rattle.chains.specs.Chain.{Own, Edge, Chain, Eqv}
use Rattle.chains.proofs.Closure.{more, stay}
use Rattle.chains.proofs.Range.{In, Within, root_in, own_in, edge_in}

-- the dependences of one tree: those of its root's instance, and those of the children
abbrev pub Tree : Grammar → ℕ → ℕ → Bush → Inst → Inst → Type 0
Tree G p n cs x y = Own G p n cs x y ⊎ Edge G cs (suc n) x y

-- x is a setting of the trees after the first
abbrev pub Later : ℕ → Bush → Bush → Inst → Type 0
Later n cs rest x = In rest (suc (n + size cs)) x.0

module _ (G : Grammar) where
  pub tree_in : (p n : ℕ) (cs : Bush) (x y : Inst) → Tree G p n cs x y → Within n cs x × Within n cs y
  tree_in p n cs x y (inl e) = own_in G p n cs x y e
  tree_in p n cs x y (inr e) = let h = edge_in G cs (suc n) x y e in omega arith

  module _ (p n : ℕ) (cs rest : Bush) where
    first_or_later : (x y : Inst) → Edge G (grow p cs rest) n x y → Tree G p n cs x y ⊎ Edge G rest (suc (n + size cs)) x y
    first_or_later x y (inl e) = inl (inl e)
    first_or_later x y (inr (inl e)) = inl (inr e)
    first_or_later x y (inr (inr e)) = inr e

    later_or_first : (x y : Inst) → Edge G (grow p cs rest) n x y → Edge G rest (suc (n + size cs)) x y ⊎ Tree G p n cs x y
    later_or_first x y (inl e) = inr (inl e)
    later_or_first x y (inr (inl e)) = inr (inr e)
    later_or_first x y (inr (inr e)) = inl e

    -- a chain from the first tree stays there
    pub in_first : {x y : Inst} → Within n cs x → Chain G (grow p cs rest) n x y → Within n cs y × Eqv (Tree G p n cs) x y
    in_first h c =
        stay (Edge G (grow p cs rest) n) (Tree G p n cs) (Edge G rest (suc (n + size cs))) (Within n cs) (Later n cs rest)
        first_or_later (tree_in p n cs) (edge_in G rest (suc (n + size cs))) (λ x s u. omega arith) h c

    -- a chain from a later tree stays among the later ones
    pub in_later : {x y : Inst} → Later n cs rest x → Chain G (grow p cs rest) n x y → Later n cs rest y × Chain G rest (suc (n + size cs)) x y
    in_later h c =
        stay (Edge G (grow p cs rest) n) (Edge G rest (suc (n + size cs))) (Tree G p n cs) (Later n cs rest) (Within n cs)
        later_or_first (edge_in G rest (suc (n + size cs))) (tree_in p n cs) (λ x s u. omega arith) h c

    tree_edge : (x y : Inst) → Tree G p n cs x y → Edge G (grow p cs rest) n x y
    tree_edge x y (inl e) = inl e
    tree_edge x y (inr e) = inr (inl e)

    pub from_first : {x y : Inst} → Eqv (Tree G p n cs) x y → Chain G (grow p cs rest) n x y
    from_first c = more tree_edge c

    pub from_later : {x y : Inst} → Chain G rest (suc (n + size cs)) x y → Chain G (grow p cs rest) n x y
    from_later c = more (λ x y e. inr (inr e)) c

  -- chained settings of roots are settings of one root
  pub same_root : (f : Bush) (n i j : ℕ) (x y : Inst) → Root f n i x.0 → Root f n j y.0 → Chain G f n x y → i ≡ j
  same_root nil n i j x y r s c = absurd r
  same_root (grow p cs rest) n zero zero x y r s c = refl
  same_root (grow p cs rest) n zero (suc j) x y r s c =
      let h = (in_first p n cs rest {x = x} {y = y} (omega arith) c).0 in
      let k = root_in rest (suc (n + size cs)) j y.0 s in
      absurd (omega arith)
  same_root (grow p cs rest) n (suc i) zero x y r s c =
      let h = (in_later p n cs rest {x = x} {y = y} (root_in rest (suc (n + size cs)) i x.0 r) c).0 in
      absurd (omega arith)
  same_root (grow p cs rest) n (suc i) (suc j) x y r s c =
      let c' = (in_later p n cs rest {x = x} {y = y} (root_in rest (suc (n + size cs)) i x.0 r) c).1 in
      ap suc (same_root rest (suc (n + size cs)) i j x y r s c')
