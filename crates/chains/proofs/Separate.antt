-- A chain from inside a tree to outside passes a setting of the tree's root.
use mathlib.Core.Logic.{◌⊎◌, inl, inr}
use Prim.Native.Nat.{ℕ, suc}
use native.Mathlib.Omega.{arith}
use native.Mathlib.Decide.{dec_le}
use Rattle.chains.specs.Grammar.{Grammar}
use Rattle.chains.specs.Tree.{Bush, grow, Inst}
use Rattle.chains.specs.Chain.{Edge, Eqv, done, fwd}
use Rattle.chains.proofs.Closure.{bind, pass, unglue}
use Rattle.chains.proofs.Range.{Within, Top, Clear}
use Rattle.chains.proofs.Forest.{Tree, tree_in}
use Rattle.chains.proofs.Around.{Around, Above, Beside, apart, beside_clear, above_outer}

module _ (G : Grammar) (W O : Inst → Inst → Type 0) (p n : ℕ) (cs rest : Bush) (A : Around G W O (grow p cs rest) n) where
  tree_or_beside : (x y : Inst) → W x y → Tree G p n cs x y ⊎ Beside G O p n cs rest x y
  tree_or_beside x y w = go (apart G W O p n cs rest A x y w)
    where
      go : Above G O p n cs rest x y ⊎ Edge G cs (suc n) x y → Tree G p n cs x y ⊎ Beside G O p n cs rest x y
      go (inl (inl e)) = inl (inl e)
      go (inl (inr e)) = inr e
      go (inr e) = inl (inr e)

  tree_inner : (x y : Inst) → Tree G p n cs x y → Eqv W x y
  tree_inner x y (inl e) = fwd done (A.inner x y (inl e))
  tree_inner x y (inr e) = fwd done (A.inner x y (inr (inl e)))

  beside_outer : (x y : Inst) → Beside G O p n cs rest x y → Eqv W x y
  beside_outer x y e = fwd done (above_outer G W O p n cs rest A x y (inr e))

  top : (x : Inst) → Within n cs x → Clear n cs x → Top n x
  top x f c = elim (dec_le (suc n) x.0) [ yes h ↦ absurd (c (omega arith)) | no h ↦ omega arith ]

  pub separate : (x y : Inst) → Within n cs x → Clear n cs y → Eqv W x y → (b : Inst) × Top n b × Eqv W x b × Eqv W b y
  separate x y f c w =
      let clear = beside_clear G W O p n cs rest A in
      let (b, t, g, d) = pass W (Tree G p n cs) (Beside G O p n cs rest) (Within n cs) (Clear n cs) (Top n) tree_or_beside (tree_in G p n cs) clear top f c w in
      (b, t, unglue (Top n) tree_inner beside_outer g, bind beside_outer d)
