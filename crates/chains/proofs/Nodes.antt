-- The nodes of a forest: every number in its range is one, its production is what stands there in preorder, and all but the roots have a parent.
use mathlib.Core.Path.{◌≡◌, refl, sym, ◌∙◌, ap, subst}
use mathlib.Core.Logic.{◌⊎◌, inl, inr}
use mathlib.Core.List.{List, [], ◌∷◌, ◌++◌}
use Prim.Native.Nat.{ℕ, zero, suc, ◌+◌, ◌≤◌, ◌<◌}
use native.Mathlib.Omega.{arith}
use native.Mathlib.Decide.{dec_le}
use lib.ListN.{length, get_or, length-append, get_or-append}
use lib.Seq.{get_or-append-add}
use Rattle.chains.specs.Grammar.{Occ, Grammar, Lawful}
use Rattle.chains.specs.Tree.{Bush, nil, grow, size, flat, Kinded, Root, Slot, Inst, At, Sub, roots, Fitted}
use Rattle.chains.specs.Chain.{Edge, Chain}
use Rattle.chains.proofs.Closure.{real_ends}
use Rattle.chains.proofs.Range.{In}
use Rattle.chains.proofs.WellKinded.{root_kind}

pub flat_length : (f : Bush) → length (flat f) ≡ size f
flat_length nil = refl
flat_length (grow p cs rest) = let a = flat_length cs in let b = flat_length rest in ap suc (simp length-append (omega arith))

pub sub_in : (f : Bush) (n i q : ℕ) (ds : Bush) → Sub f n i q ds → In f n i × (i + size ds < n + size f)
sub_in nil n i q ds s = absurd s
sub_in (grow p cs rest) n i q ds (inl s) = let e = s.0 in let h = ap size s.2 in omega arith
sub_in (grow p cs rest) n i q ds (inr (inl s)) = let h = sub_in cs (suc n) i q ds s in omega arith
sub_in (grow p cs rest) n i q ds (inr (inr s)) = let h = sub_in rest (suc (n + size cs)) i q ds s in omega arith

-- every number in range is a node
pub sub_all : (f : Bush) (n i : ℕ) → In f n i → (q : ℕ) × (ds : Bush) × Sub f n i q ds
sub_all nil n i h = absurd (omega arith)
sub_all (grow p cs rest) n i h =
    go (dec_le (suc n) i) (dec_le (suc (n + size cs)) i) (λ k. sub_all cs (suc n) i k) (λ k. sub_all rest (suc (n + size cs)) i k)
  where
    go : Dec (suc n ≤ i) → Dec (suc (n + size cs) ≤ i) → (In cs (suc n) i → (q : ℕ) × (ds : Bush) × Sub cs (suc n) i q ds)
        → (In rest (suc (n + size cs)) i → (q : ℕ) × (ds : Bush) × Sub rest (suc (n + size cs)) i q ds)
        → (q : ℕ) × (ds : Bush) × Sub (grow p cs rest) n i q ds
    go d (yes k) kid sib = let (q, ds, s) = sib (omega arith) in (q, ds, inr (inr s))
    go (yes k) (no l) kid sib = let (q, ds, s) = kid (omega arith) in (q, ds, inr (inl s))
    go (no k) (no l) kid sib = (p, cs, inl (omega arith, refl, refl))

-- a number is one node at most
pub sub_one : (f : Bush) (n i q q' : ℕ) (ds ds' : Bush) → Sub f n i q ds → Sub f n i q' ds' → (q ≡ q') × (ds ≡ ds')
sub_one nil n i q q' ds ds' s t = absurd s
sub_one (grow p cs rest) n i q q' ds ds' (inl s) (inl t) = (sym s.1 ∙ t.1, sym s.2 ∙ t.2)
sub_one (grow p cs rest) n i q q' ds ds' (inl s) (inr (inl t)) = let e = s.0 in let h = sub_in cs (suc n) i q' ds' t in absurd (omega arith)
sub_one (grow p cs rest) n i q q' ds ds' (inl s) (inr (inr t)) =
    let e = s.0 in let h = sub_in rest (suc (n + size cs)) i q' ds' t in absurd (omega arith)
sub_one (grow p cs rest) n i q q' ds ds' (inr (inl s)) (inl t) = let e = t.0 in let h = sub_in cs (suc n) i q ds s in absurd (omega arith)
sub_one (grow p cs rest) n i q q' ds ds' (inr (inl s)) (inr (inl t)) = sub_one cs (suc n) i q q' ds ds' s t
sub_one (grow p cs rest) n i q q' ds ds' (inr (inl s)) (inr (inr t)) =
    let h = sub_in cs (suc n) i q ds s in let k = sub_in rest (suc (n + size cs)) i q' ds' t in absurd (omega arith)
sub_one (grow p cs rest) n i q q' ds ds' (inr (inr s)) (inl t) =
    let e = t.0 in let h = sub_in rest (suc (n + size cs)) i q ds s in absurd (omega arith)
sub_one (grow p cs rest) n i q q' ds ds' (inr (inr s)) (inr (inl t)) =
    let h = sub_in cs (suc n) i q' ds' t in let k = sub_in rest (suc (n + size cs)) i q ds s in absurd (omega arith)
sub_one (grow p cs rest) n i q q' ds ds' (inr (inr s)) (inr (inr t)) = sub_one rest (suc (n + size cs)) i q q' ds ds' s t

-- a node's production is what stands at its number in preorder
flat_at : (f : Bush) (n i q : ℕ) (ds : Bush) (d : ℕ) → Sub f n i q ds → (t : ℕ) × (i ≡ n + t) × (get_or (flat f) t d ≡ q)
flat_at nil n i q ds d s = absurd s
flat_at (grow p cs rest) n i q ds d (inl s) = let e = s.0 in (0, omega arith, s.1)
flat_at (grow p cs rest) n i q ds d (inr (inl s)) =
    let (t, e, g) = flat_at cs (suc n) i q ds d s in
    let h = sub_in cs (suc n) i q ds s in
    (suc t, omega arith, get_or-append (flat cs) (flat rest) d t (rw flat_length (omega arith)) ∙ g)
flat_at (grow p cs rest) n i q ds d (inr (inr s)) =
    let (t, e, g) = flat_at rest (suc (n + size cs)) i q ds d s in
    let g' = get_or-append-add (flat cs) (flat rest) t d ∙ g in
    (suc (size cs + t), omega arith, subst (λ m. get_or (flat cs ++ flat rest) (m + t) d ≡ q) (flat_length cs) g')

pub sub_flat : (f : Bush) (i q : ℕ) (ds : Bush) (d : ℕ) → Sub f 0 i q ds → get_or (flat f) i d ≡ q
sub_flat f i q ds d s = let (t, e, g) = flat_at f 0 i q ds d s in let e' : i ≡ t = omega arith in rw e' g

-- a node's children are nodes
pub sub_child : (f : Bush) (n i q : ℕ) (ds : Bush) (m p : ℕ) (cs : Bush) → Sub f n i q ds → Sub ds (suc i) m p cs → Sub f n m p cs
sub_child nil n i q ds m p cs s t = absurd s
sub_child (grow p' cs' rest) n i q ds m p cs (inl (ei, ep, ec)) t = inr (inl (rw (← ei, ec) t))
sub_child (grow p' cs' rest) n i q ds m p cs (inr (inl s)) t = inr (inl (sub_child cs' (suc n) i q ds m p cs s t))
sub_child (grow p' cs' rest) n i q ds m p cs (inr (inr s)) t = inr (inr (sub_child rest (suc (n + size cs')) i q ds m p cs s t))

pub sub_within : (f : Bush) (n i q : ℕ) (ds : Bush) (m p : ℕ) (cs : Bush) → Sub f n i q ds → Sub (grow q ds nil) i m p cs → Sub f n m p cs
sub_within f n i q ds m p cs s (inl (em, ep, ec)) = rw (em, ← ep, ← ec) s
sub_within f n i q ds m p cs s (inr (inl t)) = sub_child f n i q ds m p cs s t
sub_within f n i q ds m p cs s (inr (inr t)) = absurd t

-- a node is a root, or a child of another node
pub parent : (f : Bush) (n m q : ℕ) (ds : Bush) → Sub f n m q ds
    → ((j : ℕ) × Root f n j m) ⊎ ((i : ℕ) × (p : ℕ) × (cs : Bush) × (j : ℕ) × Sub f n i p cs × Root cs (suc i) j m)
parent nil n m q ds s = absurd s
parent (grow p cs rest) n m q ds (inl s) = inl (0, s.0)
parent (grow p cs rest) n m q ds (inr (inl s)) =
    elim (parent cs (suc n) m q ds s) [
      | inl r ↦ inr (n, p, cs, r.0, inl (refl, refl, refl), r.1)
      | inr r ↦ inr (r.0, r.1, r.2, r.3, inr (inl r.4), r.5)
    ]
parent (grow p cs rest) n m q ds (inr (inr s)) =
    elim (parent rest (suc (n + size cs)) m q ds s) [
      | inl r ↦ inl (suc r.0, r.1)
      | inr r ↦ inr (r.0, r.1, r.2, r.3, inr (inr r.4), r.5)
    ]

-- ── the list of roots ──
pub roots_at : (f : Bush) (n j m d : ℕ) → Root f n j m → get_or (roots f n) j d ≡ m
roots_at nil n j m d r = absurd r
roots_at (grow p cs rest) n zero m d r = sym r
roots_at (grow p cs rest) n (suc j) m d r = roots_at rest (suc (n + size cs)) j m d r

pub slots_at : (i : ℕ) (ds : Bush) (s m d : ℕ) → Slot i ds s m → get_or (i ∷ roots ds (suc i)) s d ≡ m
slots_at i ds zero m d r = sym r
slots_at i ds (suc j) m d r = roots_at ds (suc i) j m d r

-- ── the ends of every dependence are settings that their nodes have ──
module _ (G : Grammar) (L : Lawful G) where
  pub fitted_more : (f g : Bush) (n n' : ℕ) → ((i q : ℕ) (ds : Bush) → Sub f n i q ds → Sub g n' i q ds) → (x : Inst) → Fitted G f n x
      → Fitted G g n' x
  fitted_more f g n n' h x (q, ds, s, l) = (q, ds, h x.0 q ds s, l)

  pub at_fitted : (p n : ℕ) (cs rest : Bush) → Kinded G cs (G.kids p) → (o : Occ) (x : Inst) → At n cs o x
      → o.1 < G.settings (get_or (G.left p ∷ G.kids p) o.0 0) → Fitted G (grow p cs rest) n x
  at_fitted p n cs rest k o x (s, e) h = go o.0 s h
    where
      go : (t : ℕ) → Slot n cs t x.0 → o.1 < G.settings (get_or (G.left p ∷ G.kids p) t 0) → Fitted G (grow p cs rest) n x
      go zero r h = (p, cs, inl (r, refl, refl), rw (← e) h)
      go (suc j) r h =
          let (q, ds, s, hd) = root_kind G cs (G.kids p) (suc n) j x.0 k r in
          (q, ds, inr (inl s), rw (hd.1, ← e) h)

  pub edge_fitted : (f : Bush) (ks : List ℕ) (n : ℕ) → Kinded G f ks → (x y : Inst) → Edge G f n x y → Fitted G f n x × Fitted G f n y
  edge_fitted nil ks n k x y e = absurd e
  edge_fitted (grow p cs rest) [] n k x y e = absurd k
  edge_fitted (grow p cs rest) (a ∷ ks) n k x y (inl (o, o', b, hx, hy)) =
      let (ex, ex', t) = L.named p o o' k.0.0 b in
      (at_fitted p n cs rest k.1 o x hx ex.1, at_fitted p n cs rest k.1 o' y hy ex'.1)
  edge_fitted (grow p cs rest) (a ∷ ks) n k x y (inr (inl e)) =
      let (hx, hy) = edge_fitted cs (G.kids p) (suc n) k.1 x y e in
      let up = fitted_more cs (grow p cs rest) (suc n) n (λ i q ds s. inr (inl s)) in
      (up x hx, up y hy)
  edge_fitted (grow p cs rest) (a ∷ ks) n k x y (inr (inr e)) =
      let (hx, hy) = edge_fitted rest ks (suc (n + size cs)) k.2 x y e in
      let up = fitted_more rest (grow p cs rest) (suc (n + size cs)) n (λ i q ds s. inr (inr s)) in
      (up x hx, up y hy)

  -- what is chained to another setting is a setting that its node has
  pub chain_fitted : (f : Bush) (ks : List ℕ) (n : ℕ) → Kinded G f ks → {x y : Inst} → Chain G f n x y → (x ≡ y) ⊎ (Fitted G f n x × Fitted G f n y)
  chain_fitted f ks n k c = real_ends (Fitted G f n) (λ x y e. inr (edge_fitted f ks n k x y e)) c
