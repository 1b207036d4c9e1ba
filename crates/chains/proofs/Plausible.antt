-- The upward pass in the words of trees: plausible codes of the children give plausible codes of the left kind, and a family of codes that is
-- closed so has every plausible code.
use mathlib.Core.Path.{◌≡◌, refl, ap, subst}
use mathlib.Core.Logic.{◌⊎◌, inl, inr, ◌↔◌}
use mathlib.Core.List.{List, [], ◌∷◌}
use Prim.Native.Nat.{ℕ, zero, suc, ◌<◌}
use native.Mathlib.Omega.{arith}
use lib.ListN.{length, get_or}
use Rattle.chains.specs.Grammar.{Occ, Grammar, Lawful, Heads, Exists}
use Rattle.chains.specs.Tree.{Bush, nil, grow, Kinded}
use Rattle.chains.specs.Chain.{done, Chain, Slotwise, Closure}
use Rattle.chains.specs.Grouping.{Says, Alike, Each, Members}
use Rattle.chains.specs.Plausible.{Plausible}
use Rattle.chains.specs.Steps.{StepUp}
use Rattle.chains.proofs.Local.{closure_iff}
use Rattle.chains.proofs.Upward.{Up, chain_iff_up}
use Rattle.chains.proofs.WellKinded.{kinded_fits}
use Rattle.chains.proofs.Says.{Code, says_unique, says_map, alike_says, members_map}
use Rattle.chains.proofs.Alike.{Kept, alike_iff, closure_real}
use Rattle.chains.proofs.Step.{up_exists, up_alike}

-- (for request 4, as is `tree_says`: nothing cites them yet)
pub plausible_code : (G : Grammar) (k c : ℕ) → Plausible G k c → Code G k c
plausible_code G k c (f, h, s) = (s.low, s.first)

-- the j-th code relates what the j-th tree chains among its root's settings
abbrev CodesTold : Grammar → Bush → List ℕ → List ℕ → Type 0
CodesTold G f ks cs = (j a b : ℕ) → Each G ks cs j a b ↔ Up G f j a b

-- the code c of the kind k relates what the first tree does
abbrev First : Grammar → Bush → ℕ → ℕ → Type 0
First G f k c = (a b : ℕ) → Alike G k c a b ↔ Up G f 0 a b

told_cons : (G : Grammar) (p : ℕ) (ds rest : Bush) (ks : List ℕ) (k c : ℕ) (cs : List ℕ) → First G (grow p ds rest) k c → CodesTold G rest ks cs
    → CodesTold G (grow p ds rest) (k ∷ ks) (c ∷ cs)
told_cons G p ds rest ks k c cs h t zero a b = h a b
told_cons G p ds rest ks k c cs h t (suc j) a b = t j a b

-- what the trees relate are settings that there are, or one number to itself
abbrev InRange : Grammar → Bush → List ℕ → Type 0
InRange G f ks = (j a b : ℕ) → Up G f j a b → (a ≡ b) ⊎ ((j < length ks) × (a < G.settings (get_or ks j 0)) × (b < G.settings (get_or ks j 0)))

-- the step of the upward pass keeps within S
abbrev pub ClosedUp : Grammar → (ℕ → ℕ → Type 0) → Type 0
ClosedUp G S = (p d : ℕ) → p < G.prods → StepUp G S p d → S (G.left p) d

module _ (G : Grammar) (L : Lawful G) where
  -- where the codes tell what the trees do, the closure of either is the other's
  told_closure : (p : ℕ) (f : Bush) (cs : List ℕ) → CodesTold G f (G.kids p) cs → (a b : ℕ)
      → Closure G p (Slotwise (λ a b. ⊥) (Each G (G.kids p) cs)) (0, a) (0, b) ↔ Closure G p (Slotwise (λ a b. ⊥) (Up G f)) (0, a) (0, b)
  told_closure p f cs t a b = closure_iff G p (λ a b. ⊥) (λ a b. ⊥) (Each G (G.kids p) cs) (Up G f) (λ a b. (λ r. r, λ r. r)) t (0, a) (0, b)

  -- ---- every tree has a code, in every closed family
  module _ (S : ℕ → ℕ → Type 0) (closed : ClosedUp G S) where
    abbrev Good : ℕ → ℕ → Type 0
    Good k c = S k c × Code G k c

    forest_codes : (f : Bush) (ks : List ℕ) → Kinded G f ks → (cs : List ℕ) × Members Good ks cs × CodesTold G f ks cs
    forest_codes nil [] h = ([], tt, λ j a b. (λ r. r, λ r. r))
    forest_codes nil (k ∷ ks) h = absurd h
    forest_codes (grow p ds rest) [] h = absurd h
    forest_codes (grow p ds rest) (k ∷ ks) ((hp, e), hd, hr) =
        let (es, ms, td) = forest_codes ds (G.kids p) hd in
        let (cs, ns, te) = forest_codes rest ks hr in
        let (c, s) = up_exists G L p hp es in
        let good : Good (G.left p) c = (closed p c hp (es, members_map Good S (λ k c g. g.0) (G.kids p) es ms, s), (s.low, s.first)) in
        let root : First G (grow p ds rest) (G.left p) c =
        λ a b. (λ r. (told_closure p ds es td a b).0 ((up_alike G L p hp c es s a b).0 r), λ r. (up_alike G L p hp c es s a b).1 ((told_closure p ds es td a b).1 r)) in
        (c ∷ cs, (subst (λ k. Good k c) e good, ns), told_cons G p ds rest ks k c cs (subst (λ k. First G (grow p ds rest) k c) e root) te)

    tree_code : (f : Bush) (k : ℕ) → Kinded G f (k ∷ []) → (c : ℕ) × S k c × Says (G.settings k) c (λ a b. Chain G f 0 (0, a) (0, b))
    tree_code nil k h = absurd h
    tree_code (grow p ds (grow q es rest)) k h = absurd h.2
    tree_code (grow p ds nil) k h = let (cs, ms, t) = forest_codes (grow p ds nil) (k ∷ []) h in only cs ms t
      where
        only : (cs : List ℕ) → Members Good (k ∷ []) cs → CodesTold G (grow p ds nil) (k ∷ []) cs → (c : ℕ) × S k c × Says (G.settings k) c (λ a b. Chain G (grow p ds nil) 0 (0, a) (0, b))
        only [] m t = absurd m
        only (c ∷ (c' ∷ cs)) m t = absurd m.1
        only (c ∷ []) m t = (
          c,
          m.0.0,
          alike_says G k c (λ a b. Chain G (grow p ds nil) 0 (0, a) (0, b)) m.0.1 (λ a b.
              let u = chain_iff_up G (grow p ds nil) 0 0 0 a b (kinded_fits G L (grow p ds nil) (k ∷ []) h) refl in
              (λ r. u.1 ((t 0 a b).0 r), λ r. (t 0 a b).1 (u.0 r))),
        )

    -- THEOREM: a closed family has every plausible code
    pub plausible_complete : (k c : ℕ) → Plausible G k c → S k c
    plausible_complete k c (f, h, s) = let (d, m, t) = tree_code f k h in subst (S k) (says_unique t s) m

  -- THEOREM: every well-kinded tree has a code that says its chains at its root (for request 4)
  pub tree_says : (f : Bush) (k : ℕ) → Kinded G f (k ∷ []) → (c : ℕ) × Says (G.settings k) c (λ a b. Chain G f 0 (0, a) (0, b))
  tree_says f k h = let (c, u, s) = tree_code (λ k c. Unit {0}) (λ p d hp s. tt) f k h in (c, s)

  -- ---- trees side by side, below a production
  -- what a tree relates among its root's settings is in range
  root_real : (p k : ℕ) (ds : Bush) → Heads G p k → InRange G ds (G.kids p) → Kept (G.settings k) (λ a b. Closure G p (Slotwise (λ a b. ⊥) (Up G ds)) (0, a) (0, b))
  root_real p k ds (hp, e) h a b u = at_root (closure_real G L p hp (Slotwise (λ a b. ⊥) (Up G ds)) below (0, a) (0, b) u)
    where
      below : (s a b : ℕ) → Slotwise (λ a b. ⊥) (Up G ds) s a b → (a ≡ b) ⊎ (Exists G p (s, a) × Exists G p (s, b))
      below zero a b r = absurd r
      below (suc j) a b r = elim (h j a b r) [ inl e ↦ inl e | inr x ↦ inr ((omega arith, x.1), (omega arith, x.2)) ]

      at_root : (◌≡◌ {A = Occ} (0, a) (0, b)) ⊎ (Exists G p (0, a) × Exists G p (0, b)) → (a ≡ b) ⊎ ((a < G.settings k) × (b < G.settings k))
      at_root (inl e) = inl (ap (λ (o : Occ). o.1) e)
      at_root (inr x) = inr (rw (← e) (x.0.1, x.1.1))

  up_real : (f : Bush) (ks : List ℕ) → Kinded G f ks → InRange G f ks
  up_real nil ks h j a b u = absurd u
  up_real (grow p ds rest) [] h j a b u = absurd h
  up_real (grow p ds rest) (k ∷ ks) h zero a b u = elim (root_real p k ds h.0 (up_real ds (G.kids p) h.1) a b u) [ inl e ↦ inl e | inr x ↦ inr (omega arith, x.0, x.1) ]
  up_real (grow p ds rest) (k ∷ ks) h (suc j) a b u = elim (up_real rest ks h.2 j a b u) [ inl e ↦ inl e | inr x ↦ inr (omega arith, x.1, x.2) ]

  -- a plausible code relates what its tree chains, wherever among others the tree stands
  told_first : (p k c : ℕ) (ds rest : Bush) → Kinded G (grow p ds nil) (k ∷ []) → Says (G.settings k) c (λ a b. Chain G (grow p ds nil) 0 (0, a) (0, b))
      → First G (grow p ds rest) k c
  told_first p k c ds rest h s =
      alike_iff G k c (λ a b. Up G (grow p ds nil) 0 a b) (says_map s (λ a b ha hb. chain_iff_up G (grow p ds nil) 0 0 0 a b (kinded_fits G L (grow p ds nil) (k ∷ []) h) refl))
      (λ a. done) (root_real p k ds h.0 (up_real ds (G.kids p) h.1))

  side_by_side : (ks cs : List ℕ) → Members (Plausible G) ks cs → (f : Bush) × Kinded G f ks × CodesTold G f ks cs
  side_by_side [] [] m = (nil, tt, λ j a b. (λ r. r, λ r. r))
  side_by_side [] (c ∷ cs) m = absurd m
  side_by_side (k ∷ ks) [] m = absurd m
  side_by_side (k ∷ ks) (c ∷ cs) ((f, h, s), ms) = let (g, hg, t) = side_by_side ks cs ms in beside f h s g hg t
    where
      beside : (f : Bush) → Kinded G f (k ∷ []) → Says (G.settings k) c (λ a b. Chain G f 0 (0, a) (0, b)) → (g : Bush) → Kinded G g ks → CodesTold G g ks cs
          → (f : Bush) × Kinded G f (k ∷ ks) × CodesTold G f (k ∷ ks) (c ∷ cs)
      beside nil h s g hg t = absurd h
      beside (grow p ds (grow q es rest)) h s g hg t = absurd h.2
      beside (grow p ds nil) h s g hg t = (grow p ds g, (h.0, h.1, hg), told_cons G p ds g ks k c cs (told_first p k c ds g h s) t)

  -- THEOREM: plausible codes of the children give a plausible code of the left kind
  pub plausible_sound : ClosedUp G (Plausible G)
  plausible_sound p d hp (cs, ms, s) =
      let (f, h, t) = side_by_side (G.kids p) cs ms in
      let tree : Kinded G (grow p f nil) (G.left p ∷ []) = ((hp, refl), h, tt) in (
        grow p f nil,
        tree,
        says_map s (λ a b ha hb.
            let u = chain_iff_up G (grow p f nil) 0 0 0 a b (kinded_fits G L (grow p f nil) (G.left p ∷ []) tree) refl in
            let v = told_closure p f cs t a b in
            (λ r. u.1 (v.0 r), λ r. v.1 (u.0 r))),
      )

  -- THEOREM: a closed family of plausible codes holds exactly the plausible ones
  pub plausible_iff : (S : ℕ → ℕ → Type 0) → ClosedUp G S → ((k c : ℕ) → S k c → Plausible G k c) → (k c : ℕ) → S k c ↔ Plausible G k c
  plausible_iff S closed only k c = (only k c, plausible_complete S closed k c)
