-- Replacement: a subtree may be replaced by another one whose own chains agree among its root's settings, and nothing changes outside.
use mathlib.Core.Path.{◌≡◌, refl, sym, ◌∙◌, ap, subst₂}
use mathlib.Core.Logic.Iff
use mathlib.Core.Logic.{◌⊎◌, inl, inr, ◌↔◌}
use mathlib.Core.List.{List, [], ◌∷◌}
use Prim.Native.Nat.{ℕ, ◌+◌, ◌≤◌, ◌<◌}
use native.Mathlib.Omega.{arith}
use Rattle.chains.specs.Grammar.{Grammar, Lawful}
use Rattle.chains.specs.Tree.{Bush, nil, grow, size, Kinded, Inst, Sub, Fitted}
use Rattle.chains.specs.Chain.{Edge, Chain, RootChains, NodeChains, Eqv, done, fwd, bwd}
use Rattle.chains.specs.Grouping.{Says}
use Rattle.chains.specs.Replace.{Hole, plug, spot, Moves, Shifts, Interchange}
use Rattle.chains.proofs.Closure.{trans, back, more, Glued, glue}
use Rattle.chains.proofs.Range.{Within, Top}
use Rattle.chains.proofs.Forest.{Tree, tree_in, in_first, from_first}
use Rattle.chains.proofs.Upward.{Up, Fits, chain_up, up_chain, chain_iff_up}
use Rattle.chains.proofs.WellKinded.{kinded_fits, sub_fits}
use Rattle.chains.proofs.Nodes.{sub_one, chain_fitted}
use Rattle.chains.proofs.Alike.{says_same}
use Rattle.chains.proofs.Holes.{Outer, plug_split, plug_outer, plug_inner, outer_shift, shifts_back, shifts_one, plug_kind, sub_counterpart}

-- ── chains outside, one way; the other way is the same with the two trees exchanged ──
module _ (G : Grammar) (q q' : ℕ) (ds ds' : Bush) (fits : Fits G (grow q' ds' nil))
    (same : (a b : ℕ) → Up G (grow q ds nil) 0 a b → Up G (grow q' ds' nil) 0 a b)
    (h : Hole) (n : ℕ) where
  abbrev Outside : Inst → Type 0
  Outside x = (x.0 ≤ spot h n) ⊎ (spot h n + size ds < x.0)

  abbrev To : Inst → Inst → Type 0
  To = Shifts (spot h n) (size ds) (size ds')

  to_outside : (x y : Inst) → To x y → Outside x
  to_outside x y (inl a, e) = inl a.0
  to_outside x y (inr a, e) = inr a.0

  outer_outside : (x y : Inst) → Outer G h n q ds x y → Outside x × Outside y
  outer_outside x y e = let (x', y', sx, sy, e') = outer_shift G q q' ds ds' h n x y e in (to_outside x x' sx, to_outside y y' sy)

  meet : (x : Inst) → Outside x → Within (spot h n) ds x → Top (spot h n) x
  meet x (inl a) f = omega arith
  meet x (inr a) f = absurd (omega arith)

  abbrev Lands : Inst → Inst → Type 0
  Lands x' y = (y' : Inst) × To y y' × Chain G (plug h q' ds') n x' y'

  -- a chain through the hole, from the hole's node to the hole's node, is there with the other tree
  across : (x y x' : Inst) → Top (spot h n) x → Top (spot h n) y → Eqv (Tree G q (spot h n) ds) x y → To x x' → Lands x' y
  across x y x' tx ty c s =
      let i = spot h n in
      let c₁ : Eqv (Tree G q i ds) (i, x.1) (i, y.1) = subst₂ (λ m m'. Eqv (Tree G q i ds) (m, x.1) (m', y.1)) tx ty c in
      let u = same x.1 y.1 (chain_up G (grow q ds nil) i 0 i x.1 y.1 refl (from_first G q i ds nil c₁)) in
      let c₂ = (in_first G q' i ds' nil {x = (i, x.1)} {y = (i, y.1)} (omega arith) (up_chain G (grow q' ds' nil) i 0 i x.1 y.1 fits refl u)).1 in
      let c₃ : Chain G (plug h q' ds') n (i, x.1) (i, y.1) = more (plug_inner G h n q' ds') c₂ in
      let ex = shifts_one i (size ds) (size ds') x x' (i, x.1) s (inl (omega arith), refl) in
      ((i, y.1), (inl (omega arith), refl), rw ex c₃)

  ahead : (x y x' : Inst) → Glued (Outer G h n q ds) (Tree G q (spot h n) ds) (Top (spot h n)) x y → To x x' → Lands x' y
  ahead x y x' (inl e) s =
      let (a, b, sa, sb, e') = outer_shift G q q' ds ds' h n x y e in
      (b, sb, rw (shifts_one (spot h n) (size ds) (size ds') x x' a s sa) (fwd done (plug_outer G h n q' ds' a b e')))
  ahead x y x' (inr (tx, ty, c)) s = across x y x' tx ty c s

  behind : (x y x' : Inst) → Glued (Outer G h n q ds) (Tree G q (spot h n) ds) (Top (spot h n)) y x → To x x' → Lands x' y
  behind x y x' (inl e) s =
      let (b, a, sb, sa, e') = outer_shift G q q' ds ds' h n y x e in
      (b, sb, rw (shifts_one (spot h n) (size ds) (size ds') x x' a s sa) (bwd done (plug_outer G h n q' ds' b a e')))
  behind x y x' (inr (ty, tx, c)) s = across x y x' tx ty (back c) s

  lands : {x y : Inst} (x' : Inst) → To x x' → Eqv (Glued (Outer G h n q ds) (Tree G q (spot h n) ds) (Top (spot h n))) x y → Lands x' y
  lands x' s done = (x', s, done)
  lands x' s (fwd {y = y} {z = z} d e) =
      let (y', sy, c) = lands x' s d in
      let (z', sz, c') = ahead y z y' e sy in
      (z', sz, trans c c')
  lands x' s (bwd {y = y} {z = z} d e) =
      let (y', sy, c) = lands x' s d in
      let (z', sz, c') = behind y z y' e sy in
      (z', sz, trans c c')

  pub replace : (x y x' y' : Inst) → To x x' → To y y' → Chain G (plug h q ds) n x y → Chain G (plug h q' ds') n x' y'
  replace x y x' y' sx sy c =
      let g = glue (Edge G (plug h q ds) n) (Outer G h n q ds) (Tree G q (spot h n) ds) Outside (Within (spot h n) ds) (Top (spot h n))
      (plug_split G h n q ds) outer_outside (tree_in G q (spot h n) ds) meet (to_outside x x' sx) (to_outside y y' sy) c in
      let (z, sz, d) = lands x' sx g in
      rw (shifts_one (spot h n) (size ds) (size ds') y y' z sy sz) d

-- ── what goes up from two trees of one kind whose own chains agree ──
module _ (G : Grammar) (L : Lawful G) (k : ℕ) where
  own_kept : (q : ℕ) (ds : Bush) → Kinded G (grow q ds nil) (k ∷ []) → (a b : ℕ) → RootChains G q ds a b
      → (a ≡ b) ⊎ ((a < G.settings (G.left q)) × (b < G.settings (G.left q)))
  own_kept q ds kinded a b c =
      elim (chain_fitted G L (grow q ds nil) (k ∷ []) 0 kinded c) [ inl e ↦ inl (ap (λ (x : Inst). x.1) e) | inr h ↦ inr (has a h.0, has b h.1) ]
    where
      has : (a : ℕ) → Fitted G (grow q ds nil) 0 (0, a) → a < G.settings (G.left q)
      has a (p, cs, s, l) = rw (sub_one (grow q ds nil) 0 0 q p ds cs (inl (refl, refl, refl)) s).0 l

  up_there : (q q' : ℕ) (ds ds' : Bush) → Kinded G (grow q ds nil) (k ∷ []) → Kinded G (grow q' ds' nil) (k ∷ [])
      → ((a b : ℕ) → a < G.settings (G.left q) → b < G.settings (G.left q) → RootChains G q ds a b → RootChains G q' ds' a b)
      → (a b : ℕ) → Up G (grow q ds nil) 0 a b → Up G (grow q' ds' nil) 0 a b
  up_there q q' ds ds' kinded kinded' agree a b u =
      let c = up_chain G (grow q ds nil) 0 0 0 a b (kinded_fits G L (grow q ds nil) (k ∷ []) kinded) refl u in
      let c' : RootChains G q' ds' a b = elim (own_kept q ds kinded a b c) [ inl e ↦ rw e done | inr h ↦ agree a b h.0 h.1 c ] in
      chain_up G (grow q' ds' nil) 0 0 0 a b refl c'

  pub same_up : (q q' : ℕ) (ds ds' : Bush) → Kinded G (grow q ds nil) (k ∷ []) → Kinded G (grow q' ds' nil) (k ∷ []) → Interchange G q q' ds ds'
      → (a b : ℕ) → Up G (grow q ds nil) 0 a b ↔ Up G (grow q' ds' nil) 0 a b
  same_up q q' ds ds' kinded kinded' agree a b =
      let e : G.left q' ≡ G.left q = kinded'.0.1 ∙ sym kinded.0.1 in (
        up_there q q' ds ds' kinded kinded' (λ a b la lb. (agree a b la lb).0) a b,
        up_there q' q ds' ds kinded' kinded (λ a b la lb. (agree a b (rw e at la) (rw e at lb)).1) a b,
      )

-- ── the theorems: two trees that differ in the subtree at one node only, where the own chains of the two subtrees agree ──
module _ (G : Grammar) (L : Lawful G) (h : Hole) (ks : List ℕ) (q q' : ℕ) (ds ds' : Bush) (kinded : Kinded G (plug h q ds) ks)
    (kinded' : Kinded G (plug h q' ds') ks)
    (agree : Interchange G q q' ds ds') where
  goes_up : (a b : ℕ) → Up G (grow q ds nil) 0 a b ↔ Up G (grow q' ds' nil) 0 a b
  goes_up = let (k, kq, kq') = plug_kind G h ks q q' ds ds' kinded kinded' in same_up G L k q q' ds ds' kq kq' agree

  hole_kind : G.left q ≡ G.left q'
  hole_kind = let (k, kq, kq') = plug_kind G h ks q q' ds ds' kinded kinded' in kq.0.1 ∙ sym kq'.0.1

  -- Chains between settings of nodes outside, and of the node itself, are the same.
  pub replaced_chains : (x y x' y' : Inst) → Shifts (spot h 0) (size ds) (size ds') x x' → Shifts (spot h 0) (size ds) (size ds') y y'
      → Chain G (plug h q ds) 0 x y ↔ Chain G (plug h q' ds') 0 x' y'
  replaced_chains x y x' y' sx sy =
      let (k, kq, kq') = plug_kind G h ks q q' ds ds' kinded kinded' in
      let back_x = shifts_back (spot h 0) (size ds) (size ds') x x' sx in
      let back_y = shifts_back (spot h 0) (size ds) (size ds') y y' sy in (
        replace G q q' ds ds' (kinded_fits G L (grow q' ds' nil) (k ∷ []) kq') (λ a b. (goes_up a b).0) h 0 x y x' y' sx sy,
        replace G q' q ds' ds (kinded_fits G L (grow q ds nil) (k ∷ []) kq) (λ a b. (goes_up a b).1) h 0 x' y' x y back_x back_y,
      )

  -- ── one node outside, or the node itself ──
  module _ (m m' : ℕ) (moves : Moves (spot h 0) (size ds) (size ds') m m') (p p' : ℕ) (cs cs' : Bush) (s : Sub (plug h q ds) 0 m p cs)
      (s' : Sub (plug h q' ds') 0 m' p' cs') where
    -- It has the same kind.
    pub replaced_kind : G.left p ≡ G.left p'
    replaced_kind =
        let (p'', cs'', s'', e, u) = sub_counterpart G q q' ds ds' goes_up h 0 m m' p cs moves s in
        kept p p'' e ∙ ap (λ t. G.left t) (sub_one (plug h q' ds') 0 m' p'' p' cs'' cs' s'' s').0
      where
        kept : (p p'' : ℕ) → (p ≡ p'') ⊎ ((p ≡ q) × (p'' ≡ q')) → G.left p ≡ G.left p''
        kept p p'' (inl e) = ap (λ t. G.left t) e
        kept p p'' (inr (e, e'')) = ap (λ t. G.left t) e ∙ (hole_kind ∙ sym (ap (λ t. G.left t) e''))

    -- The chains of its own subtree agree among its settings.
    pub replaced_subtree : (a b : ℕ) → RootChains G p cs a b ↔ RootChains G p' cs' a b
    replaced_subtree a b =
        let (p'', cs'', s'', e, u) = sub_counterpart G q q' ds ds' goes_up h 0 m m' p cs moves s in
        let (ep, ec) = sub_one (plug h q' ds') 0 m' p'' p' cs'' cs' s'' s' in
        let u' : Up G (grow p cs nil) 0 a b ↔ Up G (grow p' cs' nil) 0 a b = rw (← ep, ← ec) (u a b) in
        let fits = sub_fits G (plug h q ds) 0 m p cs (kinded_fits G L (plug h q ds) ks kinded) s in
        let fits' = sub_fits G (plug h q' ds') 0 m' p' cs' (kinded_fits G L (plug h q' ds') ks kinded') s' in
        Iff.trans (chain_iff_up G (grow p cs nil) 0 0 0 a b fits refl) (Iff.trans u' (Iff.symm (chain_iff_up G (grow p' cs' nil) 0 0 0 a b fits' refl)))

    -- So a code that says its subtree's chains says them also after the replacement.
    pub replaced_plausible : (c : ℕ) → Says (G.settings (G.left p)) c (RootChains G p cs)
        ↔ Says (G.settings (G.left p')) c (RootChains G p' cs')
    replaced_plausible c =
        says_same (G.settings (G.left p)) (G.settings (G.left p')) c (RootChains G p cs) (RootChains G p' cs')
        (ap (λ t. G.settings t) replaced_kind) replaced_subtree

    -- And so does a code that says the whole tree's chains among its settings.
    pub replaced_feasible : (c : ℕ) → Says (G.settings (G.left p)) c (NodeChains G (plug h q ds) m)
        ↔ Says (G.settings (G.left p')) c (NodeChains G (plug h q' ds') m')
    replaced_feasible c =
        says_same (G.settings (G.left p)) (G.settings (G.left p')) c (NodeChains G (plug h q ds) m) (NodeChains G (plug h q' ds') m')
        (ap (λ t. G.settings t) replaced_kind) (λ a b. replaced_chains (m, a) (m, b) (m', a) (m', b) (moves, refl) (moves, refl))

  -- A setting outside that there is before is there after.
  pub replaced_fitted : (x x' : Inst) → Shifts (spot h 0) (size ds) (size ds') x x' → Fitted G (plug h q ds) 0 x → Fitted G (plug h q' ds') 0 x'
  replaced_fitted x x' (moves, e) (p, cs, s, l) =
      let (p', cs', s', i, u) = sub_counterpart G q q' ds ds' goes_up h 0 x.0 x'.0 p cs moves s in
      let k = replaced_kind x.0 x'.0 moves p p' cs cs' s s' in
      (p', cs', s', rw (e, ← k) l)
