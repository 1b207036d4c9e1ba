-- From the root down: at every node the whole tree's chains among the settings of its production instance are the closure of the production's
-- ties, of what is chosen at the node, and of what the children relate from the bottom up.
use mathlib.Core.Path.{refl}
use mathlib.Core.Logic.Iff
use mathlib.Core.Logic.{inl, inr, ◌↔◌}
use Prim.Native.Nat.{ℕ, zero, suc, ◌+◌}
use Rattle.chains.specs.Grammar.{Occ, Grammar}
use Rattle.chains.specs.Tree.{Bush, nil, grow, size, Root, Slot, Inst, At, Sub}
use Rattle.chains.specs.Chain.{Slotwise, Closure, Eqv, done, fwd}
use Rattle.chains.proofs.Closure.{more}
use Rattle.chains.proofs.Local.{Seen, local, whole, join_mono}
use Rattle.chains.proofs.Upward.{Up, Fits, chain_up, up_chain}
use Rattle.chains.proofs.Around.{Around, around_children, around_rest, Beside, Above, Before, apart, beside_clear, above_outer}

-- the closure of p's ties, of ρ at the node itself, and of what goes up from the children
abbrev pub Through : Grammar → ℕ → (ℕ → ℕ → Type 0) → Bush → Occ → Occ → Type 0
Through G p ρ cs = Closure G p (Slotwise ρ (Up G cs))

-- one node: if ρ is what W chains among its settings, the closure is what W chains in its production instance
module _ (G : Grammar) (W O : Inst → Inst → Type 0) (p n : ℕ) (cs rest : Bush) (A : Around G W O (grow p cs rest) n)
    (fits : Fits G (grow p cs rest)) (ρ : ℕ → ℕ → Type 0) (agree : (a b : ℕ) → Eqv W (n, a) (n, b) ↔ ρ a b) where
  seen_slots : (s a b : ℕ) → Seen G n cs (Beside G O p n cs rest) s a b → Slotwise ρ (Up G cs) s a b
  seen_slots zero a b c = (agree a b).0 (more (λ x y e. above_outer G W O p n cs rest A x y (inr e)) c)
  seen_slots (suc j) a b (m, r, c) = chain_up G cs (suc n) j m a b r c

  slots_chained : (s a b m : ℕ) → Slot n cs s m → Slotwise ρ (Up G cs) s a b → Eqv W (m, a) (m, b)
  slots_chained zero a b m r t = rw r ((agree a b).1 t)
  slots_chained (suc j) a b m r t = more (λ x y e. A.inner x y (inr (inl e))) (up_chain G cs (suc n) j m a b fits.1 r t)

  pub node_right : (o o' : Occ) (x y : Inst) → At n cs o x → At n cs o' y → Eqv W x y ↔ Through G p ρ cs o o'
  node_right o o' x y h h' = (
    λ c. join_mono G p (Seen G n cs (Beside G O p n cs rest)) (Slotwise ρ (Up G cs)) seen_slots
        (local G p n cs W (Beside G O p n cs rest) (apart G W O p n cs rest A) (beside_clear G W O p n cs rest A) o o' x y h h' c),
    whole G p n cs W (Slotwise ρ (Up G cs)) fits.0 (λ x y e. fwd done (A.inner x y (inl e))) slots_chained o o' x y h h',
  )

-- all nodes: `chosen` has a relation for each node. At the roots it is what W chains there, and each child's is what its parent's closure
-- relates on the child's slot
module _ (G : Grammar) (W : Inst → Inst → Type 0) (chosen : ℕ → ℕ → ℕ → Type 0) where
  abbrev pub Handed : Bush → ℕ → Type 0
  Handed f n = (i q : ℕ) (ds : Bush) → Sub f n i q ds → (j m a b : ℕ) → Root ds (suc i) j m
      → chosen m a b ↔ Through G q (chosen i) ds (suc j, a) (suc j, b)

  abbrev pub Exactly : Bush → ℕ → Type 0
  Exactly f n = (j m a b : ℕ) → Root f n j m → Eqv W (m, a) (m, b) ↔ chosen m a b

  -- then at every node the closure is what W chains in its production instance
  pub down_nodes : (O : Inst → Inst → Type 0) (f : Bush) (n : ℕ) → Around G W O f n → Fits G f → Handed f n → Exactly f n
      → (i q : ℕ) (ds : Bush) → Sub f n i q ds → (o o' : Occ) (x y : Inst) → At i ds o x → At i ds o' y → Eqv W x y ↔ Through G q (chosen i) ds o o'
  down_nodes O nil n A fits hand ex i q ds s = absurd s
  down_nodes O (grow p cs rest) n A fits hand ex i q ds (inl (ei, eq, ed)) =
      rw (ei, ← eq, ← ed) (node_right G W O p n cs rest A fits (chosen n) (λ a b. ex 0 n a b refl))
  down_nodes O (grow p cs rest) n A fits hand ex i q ds (inr (inl s)) =
      let here = node_right G W O p n cs rest A fits (chosen n) (λ a b. ex 0 n a b refl) in
      let given = hand n p cs (inl (refl, refl, refl)) in
      down_nodes (Above G O p n cs rest) cs (suc n) (around_children G W O p n cs rest A) fits.1 (λ i q ds s. hand i q ds (inr (inl s)))
      (λ j m a b r. Iff.trans (here (suc j, a) (suc j, b) (m, a) (m, b) (r, refl) (r, refl)) (Iff.symm (given j m a b r))) i q ds s
  down_nodes O (grow p cs rest) n A fits hand ex i q ds (inr (inr s)) =
      down_nodes (Before G O p n cs rest) rest (suc (n + size cs)) (around_rest G W O p n cs rest A) fits.2
      (λ i q ds s. hand i q ds (inr (inr s))) (λ j m a b r. ex (suc j) m a b r) i q ds s
