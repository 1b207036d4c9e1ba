-- What the tables say of a tree. Where every node has the code that its children's codes give from the bottom up, and then the one that its
-- parent's gives from the root down, the join at every node is the whole tree's chains there.
use mathlib.Core.Path.{◌≡◌, refl, ◌∙◌, ap}
use mathlib.Core.Logic.Iff
use mathlib.Core.Logic.{inl, inr, ◌↔◌}
use mathlib.Core.List.{List, [], ◌∷◌, map}
use Prim.Native.Nat.{ℕ, zero, suc, ◌+◌}
use native.Mathlib.Omega.{arith}
use lib.ListN.{get_or}
use Rattle.chains.specs.Grammar.{Occ, Grammar, Lawful}
use Rattle.chains.specs.Tree.{Bush, nil, grow, size, flat, Kinded, Root, Inst, At, Sub, roots}
use Rattle.chains.specs.Chain.{Edge, Chain, RootChains, NodeChains, Slotwise, Closure}
use Rattle.chains.specs.Grouping.{Says, Alike, Each}
use Rattle.chains.specs.Feasible.{Chosen}
use Rattle.chains.specs.Choice.{kid_codes, ChosenUp, ChosenDown}
use Rattle.chains.proofs.Local.{closure_iff}
use Rattle.chains.proofs.Upward.{Up, Nowhere, chain_iff_up}
use Rattle.chains.proofs.WellKinded.{kinded_fits, sub_kinded, sub_fits, root_kind, one_tree}
use Rattle.chains.proofs.Nodes.{sub_in, sub_one, sub_flat, sub_child, parent}
use Rattle.chains.proofs.Around.{around_all}
use Rattle.chains.proofs.Downward.{Through, Handed, Exactly, down_nodes}
use Rattle.chains.proofs.Alike.{says_iff}
use Rattle.chains.proofs.Step.{up_alike, down_alike}

-- what the join at the node i relates among its own settings from the bottom up, and among its j-th child's from the root down
abbrev Upon : Grammar → (ℕ → ℕ) → ℕ → ℕ → Bush → ℕ → ℕ → Type 0
Upon G U i q ds a b = Closure G q (Slotwise (λ a b. ⊥) (Each G (G.kids q) (kid_codes U i ds))) (0, a) (0, b)

abbrev Onto : Grammar → (U F : ℕ → ℕ) → ℕ → ℕ → Bush → ℕ → ℕ → ℕ → Type 0
Onto G U F i q ds j a b = Closure G q (Chosen G q (F i) (kid_codes U i ds)) (suc j, a) (suc j, b)

module _ (G : Grammar) (L : Lawful G) (U : ℕ → ℕ) where
  -- ── upward ──
  -- the roots' codes relate what goes up
  pub codes_up : (f : Bush) (ks : List ℕ) (n : ℕ) → Kinded G f ks → ChosenUp G f n U → (j a b : ℕ)
      → Each G ks (map U (roots f n)) j a b ↔ Up G f j a b
  codes_up nil [] n k rise j a b = Iff.rfl
  codes_up nil (x ∷ ks) n k rise j a b = absurd k
  codes_up (grow p cs rest) [] n k rise j a b = absurd k
  codes_up (grow p cs rest) (x ∷ ks) n k rise zero a b =
      let below = codes_up cs (G.kids p) (suc n) k.1 (λ i q ds s. rise i q ds (inr (inl s))) in
      rw (← k.0.1) (Iff.trans (up_alike G L p k.0.0 (U n) (kid_codes U n cs) (rise n p cs (inl (refl, refl, refl))) a b)
      (closure_iff G p (λ a b. ⊥) (λ a b. ⊥) (Each G (G.kids p) (kid_codes U n cs)) (Up G cs) (λ a b. Iff.rfl) below (0, a) (0, b)))
  codes_up (grow p cs rest) (x ∷ ks) n k rise (suc j) a b = codes_up rest ks (suc (n + size cs)) k.2 (λ i q ds s. rise i q ds (inr (inr s))) j a b

  -- a tree is the subtree of its root
  whole_tree : (k : ℕ) (f : Bush) → Kinded G f (k ∷ []) → (q : ℕ) (ds : Bush) → Sub f 0 0 q ds → f ≡ grow q ds nil
  whole_tree k nil h q ds s = absurd s
  whole_tree k (grow p cs (grow p' cs' rest)) h q ds s = absurd h.2
  whole_tree k (grow p cs nil) h q ds (inl (e, ep, ec)) = cc
  whole_tree k (grow p cs nil) h q ds (inr (inl s)) = let h = sub_in cs 1 0 q ds s in absurd (omega arith)
  whole_tree k (grow p cs nil) h q ds (inr (inr s)) = absurd s

  -- ── a tree of the kind k, with a code for each node from the bottom up ──
  module _ (k : ℕ) (f : Bush) (kinded : Kinded G f (k ∷ [])) (rise : ChosenUp G f 0 U) where
    kids_up : (i q : ℕ) (ds : Bush) → Sub f 0 i q ds → (j a b : ℕ) → Each G (G.kids q) (kid_codes U i ds) j a b ↔ Up G ds j a b
    kids_up i q ds s =
        codes_up ds (G.kids q) (suc i) (sub_kinded G f (k ∷ []) 0 i q ds kinded s).1 (λ m p cs t. rise m p cs (sub_child f 0 i q ds m p cs s t))

    -- The code of a node says the chains of its subtree alone among the node's settings.
    pub subtree_says : (i q : ℕ) (ds : Bush) → Sub f 0 i q ds → Says (G.settings (G.left q)) (U i) (RootChains G q ds)
    subtree_says i q ds s =
        says_iff (G.settings (G.left q)) (U i) (Upon G U i q ds) (RootChains G q ds) there (rise i q ds s)
      where
        there : (a b : ℕ) → Upon G U i q ds a b ↔ RootChains G q ds a b
        there a b =
            let fits = sub_fits G f 0 i q ds (kinded_fits G L f (k ∷ []) kinded) s in
            let kids = closure_iff G q (λ a b. ⊥) (λ a b. ⊥) (Each G (G.kids q) (kid_codes U i ds)) (Up G ds) (λ a b. Iff.rfl) (kids_up i q ds s) in
            Iff.trans (kids (0, a) (0, b)) (Iff.symm (chain_iff_up G (grow q ds nil) 0 0 0 a b fits refl))

    -- ── and a code for each node from the root down ──
    module _ (F : ℕ → ℕ) (fall : ChosenDown G f U F) where
      abbrev chosen : ℕ → ℕ → ℕ → Type 0
      chosen i a b = Alike G (G.left (get_or (flat f) i 0)) (F i) a b

      kind_at : (i q : ℕ) (ds : Bush) → Sub f 0 i q ds → G.left (get_or (flat f) i 0) ≡ G.left q
      kind_at i q ds s = ap (λ q. G.left q) (sub_flat f i q ds 0 s)

      -- the join at a node over its codes is the one over what goes up
      join_through : (i q : ℕ) (ds : Bush) → Sub f 0 i q ds → (o o' : Occ)
          → Closure G q (Chosen G q (F i) (kid_codes U i ds)) o o' ↔ Through G q (chosen i) ds o o'
      join_through i q ds s =
          closure_iff G q (Alike G (G.left q) (F i)) (chosen i) (Each G (G.kids q) (kid_codes U i ds)) (Up G ds)
          (λ a b. rw (kind_at i q ds s) Iff.rfl) (kids_up i q ds s)

      handed : Handed G (Edge G f 0) chosen f 0
      handed i q ds s j m a b r =
          let (there, below) = sub_kinded G f (k ∷ []) 0 i q ds kinded s in
          let (q', es, t, hd) = root_kind G ds (G.kids q) (suc i) j m below r in
          let e : G.left (get_or (flat f) m 0) ≡ get_or (G.kids q) j 0 = kind_at m q' es (sub_child f 0 i q ds m q' es s t) ∙ hd.1 in
          let alike = down_alike G L q there (F i) (kid_codes U i ds) (suc j) (F m) (fall.child i q ds s j m r) a b in
          rw e (Iff.trans alike (join_through i q ds s (suc j, a) (suc j, b)))

      root_alike : (f : Bush) → Kinded G f (k ∷ []) → ChosenUp G f 0 U → (a b : ℕ)
          → Chain G f 0 (0, a) (0, b) ↔ Alike G (G.left (get_or (flat f) 0 0)) (U 0) a b
      root_alike nil h u a b = absurd h
      root_alike (grow p cs rest) h u a b =
          let (to, from) = codes_up (grow p cs rest) (k ∷ []) 0 h u 0 a b in
          rw h.0.1 (Iff.trans (chain_iff_up G (grow p cs rest) 0 0 0 a b (kinded_fits G L (grow p cs rest) (k ∷ []) h) refl) (from, to))

      exactly : Exactly G (Edge G f 0) chosen f 0
      exactly j m a b r = let e = (one_tree G f k 0 j m kinded r).1 in rw (e, fall.root) (root_alike f kinded rise a b)

      -- At every node the join of its production with its feasible code and its children's plausible codes is the whole tree's chains there.
      pub entries : (i q : ℕ) (ds : Bush) → Sub f 0 i q ds → (o o' : Occ) (x y : Inst) → At i ds o x → At i ds o' y
          → Chain G f 0 x y ↔ Closure G q (Chosen G q (F i) (kid_codes U i ds)) o o'
      entries i q ds s o o' x y h h' =
          let fits = kinded_fits G L f (k ∷ []) kinded in
          let (to, from) = join_through i q ds s o o' in
          Iff.trans (down_nodes G (Edge G f 0) chosen Nowhere f 0 (around_all G f 0) fits handed exactly i q ds s o o' x y h h') (from, to)

      -- The feasible code of a node says the whole tree's chains among the node's settings.
      pub whole_says : (i q : ℕ) (ds : Bush) → Sub f 0 i q ds → Says (G.settings (G.left q)) (F i) (NodeChains G f i)
      whole_says i q ds s = elim (parent f 0 i q ds s) [ inl r ↦ at_root r.0 r.1 | inr r ↦ at_child r.0 r.1 r.2 r.3 r.4 r.5 ]
        where
          at_root : (j : ℕ) → Root f 0 j i → Says (G.settings (G.left q)) (F i) (NodeChains G f i)
          at_root j r =
              let e = (one_tree G f k 0 j i kinded r).1 in
              let s₀ : Sub f 0 0 q ds = rw e at s in
              rw (e, fall.root, whole_tree k f kinded q ds s₀) (subtree_says 0 q ds s₀)

          at_child : (m p : ℕ) (cs : Bush) (j : ℕ) → Sub f 0 m p cs → Root cs (suc m) j i
              → Says (G.settings (G.left q)) (F i) (NodeChains G f i)
          at_child m p cs j t r =
              let (q', es, u, hd) = root_kind G cs (G.kids p) (suc m) j i (sub_kinded G f (k ∷ []) 0 m p cs kinded t).1 r in
              let eq = (sub_one f 0 i q q' ds es s (sub_child f 0 m p cs i q' es t u)).0 in
              let e : G.left q ≡ get_or (G.kids p) j 0 = ap (λ q. G.left q) eq ∙ hd.1 in
              rw e (says_iff (G.settings (get_or (G.kids p) j 0)) (F i) (Onto G U F m p cs j) (NodeChains G f i)
              (λ a b. Iff.symm (entries m p cs t (suc j, a) (suc j, b) (i, a) (i, b) (r, refl) (r, refl))) (fall.child m p cs t j i r))
