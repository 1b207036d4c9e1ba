-- Gluing: what a tree's chains relate among its root's settings is worked out from the root's production and from what its children's own
-- chains relate among theirs, and from nothing else.
use mathlib.Core.Path.{refl, ap}
use mathlib.Core.Logic.{◌⊎◌, inl, inr, ◌↔◌}
use Prim.Native.Nat.{ℕ, zero, suc, ◌+◌, ◌≤◌}
use native.Mathlib.Omega.{arith}
use Rattle.chains.specs.Grammar.{Occ, Grammar, Tied}
use Rattle.chains.specs.Tree.{Bush, nil, grow, size, count, Root, Slot, Inst}
use Rattle.chains.specs.Chain.{Own, Edge, Chain, Slotwise, Closure, Eqv, done, fwd}
use Rattle.chains.proofs.Closure.{more, no_edge}
use Rattle.chains.proofs.Range.{root_in}
use Rattle.chains.proofs.Forest.{Tree, in_first, in_later, from_first, from_later}
use Rattle.chains.proofs.Local.{Seen, local, whole, join_bind}

-- what the forest's j-th tree relates among its root's settings, from the bottom up: the closure of the root's ties and of what the children relate
abbrev pub Up : Grammar → Bush → ℕ → ℕ → ℕ → Type 0
Up G nil j a b = ⊥
Up G (grow p cs rest) zero a b = Closure G p (Slotwise (λ a b. ⊥) (Up G cs)) (0, a) (0, b)
Up G (grow p cs rest) (suc j) a b = Up G rest j a b

-- every node's ties name slots that it has
abbrev pub Fits : Grammar → Bush → Type 0
Fits G nil = Unit {0}
Fits G (grow p cs rest) = ((o o' : Occ) → Tied G p o o' → (o.0 ≤ count cs) × (o'.0 ≤ count cs)) × Fits G cs × Fits G rest

-- no dependence at all: what stands around a whole tree
abbrev pub Nowhere : Inst → Inst → Type 0
Nowhere x y = ⊥

module _ (G : Grammar) where
  pub own_or_below : (p n : ℕ) (cs : Bush) (x y : Inst) → Tree G p n cs x y → (Own G p n cs x y ⊎ ⊥) ⊎ Edge G cs (suc n) x y
  own_or_below p n cs x y (inl e) = inl (inl e)
  own_or_below p n cs x y (inr e) = inr e

  below_up : (p n : ℕ) (cs : Bush) → ((j m a b : ℕ) → Root cs (suc n) j m → Chain G cs (suc n) (m, a) (m, b) → Up G cs j a b)
      → (s a b : ℕ) → Seen G n cs Nowhere s a b → Closure G p (Slotwise (λ a b. ⊥) (Up G cs)) (s, a) (s, b)
  below_up p n cs ih zero a b c = let e = ap (λ (x : Inst). x.1) (no_edge (λ x y h. h) c) in rw e done
  below_up p n cs ih (suc j) a b (m, r, c) = fwd done (inr (refl, ih j m a b r c))

  up_below : (p n : ℕ) (cs : Bush) → ((j m a b : ℕ) → Root cs (suc n) j m → Up G cs j a b → Chain G cs (suc n) (m, a) (m, b))
      → (s a b m : ℕ) → Slot n cs s m → Slotwise (λ a b. ⊥) (Up G cs) s a b → Eqv (Tree G p n cs) (m, a) (m, b)
  up_below p n cs ih zero a b m r t = absurd t
  up_below p n cs ih (suc j) a b m r t = more (λ x y e. inr e) (ih j m a b r t)

  -- chains among a root's settings are what goes up
  pub chain_up : (f : Bush) (n j m a b : ℕ) → Root f n j m → Chain G f n (m, a) (m, b) → Up G f j a b
  chain_up nil n j m a b r c = absurd r
  chain_up (grow p cs rest) n zero m a b r c =
      let c' = (in_first G p n cs rest {x = (m, a)} {y = (m, b)} (omega arith) c).1 in
      let d = local G p n cs (Tree G p n cs) Nowhere (own_or_below p n cs) (λ x y e. absurd e) (0, a) (0, b) (m, a) (m, b) (r, refl) (r, refl) c' in
      join_bind G p (Seen G n cs Nowhere) (Slotwise (λ a b. ⊥) (Up G cs)) (below_up p n cs (λ j m a b r c. chain_up cs (suc n) j m a b r c)) d
  chain_up (grow p cs rest) n (suc j) m a b r c =
      chain_up rest (suc (n + size cs)) j m a b r
      (in_later G p n cs rest {x = (m, a)} {y = (m, b)} (root_in rest (suc (n + size cs)) j m r) c).1

  -- and the other way, where the ties name slots that are there
  pub up_chain : (f : Bush) (n j m a b : ℕ) → Fits G f → Root f n j m → Up G f j a b → Chain G f n (m, a) (m, b)
  up_chain nil n j m a b h r u = absurd r
  up_chain (grow p cs rest) n zero m a b h r u =
      from_first G p n cs rest
      (whole G p n cs (Tree G p n cs) (Slotwise (λ a b. ⊥) (Up G cs)) h.0 (λ x y e. fwd done (inl e))
      (up_below p n cs (λ j m a b r u. up_chain cs (suc n) j m a b h.1 r u)) (0, a) (0, b) (m, a) (m, b) (r, refl) (r, refl) u)
  up_chain (grow p cs rest) n (suc j) m a b h r u = from_later G p n cs rest (up_chain rest (suc (n + size cs)) j m a b h.2 r u)

  -- the two together
  pub chain_iff_up : (f : Bush) (n j m a b : ℕ) → Fits G f → Root f n j m → Chain G f n (m, a) (m, b) ↔ Up G f j a b
  chain_iff_up f n j m a b h r = (chain_up f n j m a b r, up_chain f n j m a b h r)
