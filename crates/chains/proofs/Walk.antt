-- The walk over a tree gives equal numbers exactly where a chain joins, and leaves no number out.
use mathlib.Core.Path.{◌≡◌, refl, sym, ◌∙◌, ap, subst, Σ_path}
use mathlib.Core.Logic.{◌⊎◌, inl, inr, ◌↔◌}
use mathlib.Core.List.Memᴰ
use mathlib.Core.List.{List, [], ◌∷◌, Memᴰ}
use Prim.Native.Nat.{ℕ, suc, ◌+◌, ◌<◌}
use native.Mathlib.Nat.{add-zero}
use native.Mathlib.Omega.{arith}
use lib.ListN.{get_or}
use Rattle.chains.specs.Grammar.{Occ, Grammar, Lawful}
use Rattle.chains.specs.Tree.{Bush, nil, grow, size, Kinded, Root, Slot, Inst, Sub, roots, Fitted}
use Rattle.chains.specs.Chain.{Edge, Chain}
use Rattle.chains.specs.Numbering.{occurrences, setting, Numbered, Told}
use Rattle.chains.proofs.Closure.{back}
use Rattle.chains.proofs.Range.{Top, root_in}
use Rattle.chains.proofs.Upward.{Nowhere}
use Rattle.chains.proofs.WellKinded.{sub_kinded, root_kids, one_tree}
use Rattle.chains.proofs.Nodes.{sub_in, sub_one, chain_fitted}
use Rattle.chains.proofs.Around.{Around, Touch, Above, Before, free, past, around_all, around_children, around_rest}
use Rattle.chains.proofs.Separate.{separate}
use Rattle.chains.proofs.Number.{Faithful, Given, Shows, Tells, faithful_none, faithful_iff, run}
use Rattle.chains.proofs.Occurrences.{occurrence_listed, top_exists, child_exists, setting_at, at_setting, child_fitted, fitted_child}

-- ── the settings of one node's children ──
-- what has been numbered once the children of the node n have, S having been before
abbrev pub Then : Grammar → ℕ → ℕ → Bush → (Inst → Type 0) → Inst → Type 0
Then G p n cs S x = S x ⊎ Given (setting n cs) (occurrences G 1 (G.kids p)) x

-- once all nodes below n have numbered their children, and once those of the other trees have
abbrev pub ThenBelow : Grammar → ℕ → ℕ → Bush → (Inst → Type 0) → Inst → Type 0
ThenBelow G p n cs S x = Then G p n cs S x ⊎ Fitted G cs (suc n) x

abbrev pub ThenAll : Grammar → ℕ → ℕ → Bush → Bush → (Inst → Type 0) → Inst → Type 0
ThenAll G p n cs rest S x = ThenBelow G p n cs S x ⊎ Fitted G rest (suc (n + size cs)) x

module _ (G : Grammar) (p n : ℕ) (cs : Bush) (kinded : Kinded G cs (G.kids p)) where
  -- a point given is a setting of a child, and a setting of a child is given
  given_root : (x : Inst) → Given (setting n cs) (occurrences G 1 (G.kids p)) x
      → (j : ℕ) × Root cs (suc n) j x.0 × (x.1 < G.settings (get_or (G.kids p) j 0))
  given_root x (o, m, ex) =
      let (j, e, l, u, h) = child_exists G p o m in
      let s = (setting_at G n p cs kinded o h).0 in
      let r : Root cs (suc n) j (setting n cs o).0 = subst (λ t. Slot n cs t (setting n cs o).0) e s in
      (j, rw ex r, rw ex u)

  pub root_given : (j : ℕ) (x : Inst) → Root cs (suc n) j x.0 → Fitted G cs (suc n) x → Given (setting n cs) (occurrences G 1 (G.kids p)) x
  root_given j x r h =
      let u = fitted_child G (suc n) cs (G.kids p) kinded j x r h in
      let l = root_kids G cs (G.kids p) (suc n) j x.0 kinded r in
      let m = occurrence_listed G 1 (G.kids p) (suc j, x.1) (j, omega arith, l, u) in
      ((suc j, x.1), m, sym (at_setting G n cs (suc j, x.1) x (r, refl)))

  -- S meets the forest at its roots, and has the first root's settings
  module _ (rest : Bush) (S : Inst → Type 0) (touch : (x : Inst) → S x → Touch (grow p cs rest) n x)
      (rooted : (a : ℕ) → a < G.settings (G.left p) → S (n, a)) where
    top_seen : (o : Occ) → Memᴰ o (occurrences G 0 (G.left p ∷ [])) → S (setting n cs o)
    top_seen o m = let (e, l, x) = top_exists G p o m in subst (λ s. S (get_or (n ∷ roots cs (suc n)) s 0, o.1)) (sym e) (rooted o.1 l)

    touch_kids : (x : Inst) → Then G p n cs S x → Touch cs (suc n) x
    touch_kids x (inl s) u = absurd (free p n cs rest x (touch x s) u)
    touch_kids x (inr g) u = let (j, r, l) = given_root x g in (j, r)

    touch_rest : (x : Inst) → ThenBelow G p n cs S x → Touch rest (suc (n + size cs)) x
    touch_rest x (inl (inl s)) = past p n cs rest x (touch x s)
    touch_rest x (inl (inr g)) = let (j, r, l) = given_root x g in let h = root_in cs (suc n) j x.0 r in λ u. absurd (omega arith)
    touch_rest x (inr (q, ds, s, l)) = let h = sub_in cs (suc n) x.0 q ds s in λ u. absurd (omega arith)

    -- the node's children, then what is below them, then the other trees: that is the forest
    all_in_turn : (x : Inst) → ThenAll G p n cs rest S x → S x ⊎ Fitted G (grow p cs rest) n x
    all_in_turn x (inl (inl (inl s))) = inl s
    all_in_turn x (inl (inl (inr g))) =
        let (j, r, l) = given_root x g in
        let (q, ds, s, u) = child_fitted G (suc n) cs (G.kids p) kinded j x r l in
        inr (q, ds, inr (inl s), u)
    all_in_turn x (inl (inr (q, ds, s, u))) = inr (q, ds, inr (inl s), u)
    all_in_turn x (inr (q, ds, s, u)) = inr (q, ds, inr (inr s), u)

    all_at_once : (x : Inst) → S x ⊎ Fitted G (grow p cs rest) n x → ThenAll G p n cs rest S x
    all_at_once x (inl s) = inl (inl (inl s))
    all_at_once x (inr (q, ds, inl (e, ep, ec), u)) =
        let u' : x.1 < G.settings (G.left p) = rw ep u in
        inl (inl (inl (subst (λ i. S (i, x.1)) (sym e) (rooted x.1 u'))))
    all_at_once x (inr (q, ds, inr (inl s), u)) = inl (inr (q, ds, s, u))
    all_at_once x (inr (q, ds, inr (inr s), u)) = inr (q, ds, s, u)

-- F is the whole tree
module _ (G : Grammar) (L : Lawful G) (F : Bush) (ks : List ℕ) (kinded : Kinded G F ks) (like : ℕ → Occ → Occ → Type 0) (num : Inst → ℕ)
    (next : ℕ → ℕ)
    (told : Told G F like) (numbered : Numbered G F like num next) where
  -- ── one node ──
  module _ (O : Inst → Inst → Type 0) (p n : ℕ) (cs rest : Bush) (A : Around G (Edge G F 0) O (grow p cs rest) n) (here : Sub F 0 n p cs)
      (below : Kinded G cs (G.kids p))
      (S : Inst → Type 0) (touch : (x : Inst) → S x → Touch (grow p cs rest) n x) (rooted : (a : ℕ) → a < G.settings (G.left p) → S (n, a)) where
    own_setting : (y b : Inst) → n < y.0 → Top n b → (y ≡ b) ⊎ (Fitted G F 0 y × Fitted G F 0 b) → b.1 < G.settings (G.left p)
    own_setting y b h t (inl e) = let e₀ = ap (λ (z : Inst). z.0) e in absurd (omega arith)
    own_setting y b h t (inr (f, (q, ds, s, l))) =
        let s' : Sub F 0 n q ds = rw t at s in
        let e = ap (λ q. G.left q) (sub_one F 0 n q p ds cs s' here).0 in
        rw (← e) l

    -- a chain from what was numbered before to a child's setting passes the node itself
    shows : Shows (Edge G F 0) num (like n) (setting n cs) S (occurrences G 0 (G.left p ∷ [])) (occurrences G 1 (G.kids p))
    shows x o s m c =
        let y = setting n cs o in
        let (j, r, u) = given_root G p n cs below y (o, m, refl) in
        let iy = root_in cs (suc n) j y.0 r in
        let (b, t, d, d') = separate G (Edge G F 0) O p n cs rest A y x (omega arith) (free p n cs rest x (touch x s)) (back c) in
        let l = own_setting y b (omega arith) t (chain_fitted G L F ks 0 kinded d) in
        ((0, b.1), occurrence_listed G 0 (G.left p ∷ []) (0, b.1) (0, refl, omega arith, l), subst (λ i. Chain G F 0 (i, b.1) y) t (back d))

    tells : Tells (Edge G F 0) num (like n) (setting n cs) (occurrences G 0 (G.left p ∷ [])) (occurrences G 1 (G.kids p))
    tells o o' (inl m) m' = told n p cs here o o' (top_exists G p o m).2 (child_exists G p o' m').4
    tells o o' (inr m) m' = told n p cs here o o' (child_exists G p o m).4 (child_exists G p o' m').4

    node_walked : Faithful (Edge G F 0) num S (next n) → Faithful (Edge G F 0) num (Then G p n cs S) (next (suc n))
    node_walked faith =
        run (Edge G F 0) num (like n) (setting n cs) (occurrences G 1 (G.kids p)) (occurrences G 0 (G.left p ∷ [])) (next n) (next (suc n)) S faith
        (top_seen G p n cs below rest S touch rooted) shows tells (numbered.below n p cs here)

    forest_walked : Faithful (Edge G F 0) num (ThenAll G p n cs rest S) (next (suc (n + size cs) + size rest))
        → Faithful (Edge G F 0) num (λ x. S x ⊎ Fitted G (grow p cs rest) n x) (next (n + suc (size cs + size rest)))
    forest_walked faith =
        let e : suc (n + size cs) + size rest ≡ n + suc (size cs + size rest) = omega arith in
        faithful_iff (Edge G F 0) num (ThenAll G p n cs rest S) (λ x. S x ⊎ Fitted G (grow p cs rest) n x)
        (next (n + suc (size cs + size rest))) (all_in_turn G p n cs below rest S touch rooted) (all_at_once G p n cs below rest S touch rooted)
        (subst (λ m. Faithful (Edge G F 0) num (ThenAll G p n cs rest S) (next m)) e faith)

  -- ── all nodes of a forest ──
  pub walk : (O : Inst → Inst → Type 0) (f : Bush) (n : ℕ) → Around G (Edge G F 0) O f n → ((i q : ℕ) (ds : Bush) → Sub f n i q ds → Sub F 0 i q ds)
      → (S : Inst → Type 0) → ((x : Inst) → S x → Touch f n x) → ((j : ℕ) (x : Inst) → Root f n j x.0 → Fitted G f n x → S x)
      → Faithful (Edge G F 0) num S (next n) → Faithful (Edge G F 0) num (λ x. S x ⊎ Fitted G f n x) (next (n + size f))
  walk O nil n A within S touch rooted faith =
      rw add-zero (faithful_iff (Edge G F 0) num S (λ x. S x ⊎ Fitted G nil n x) (next n) (λ x s. inl s) (λ x u. elim u [ inl s ↦ s | inr h ↦ absurd h.2 ]) faith)
  walk O (grow p cs rest) n A within S touch rooted faith =
      let here = within n p cs (inl (refl, refl, refl)) in
      let below = (sub_kinded G F ks 0 n p cs kinded here).1 in
      let own : (a : ℕ) → a < G.settings (G.left p) → S (n, a) = λ a l. rooted 0 (n, a) refl (p, cs, inl (refl, refl, refl), l) in
      let children = walk (Above G O p n cs rest) cs (suc n) (around_children G (Edge G F 0) O p n cs rest A) (λ i q ds s. within i q ds (inr (inl s))) (Then G p n cs S)
      (touch_kids G p n cs below rest S touch own) (λ j x r h. inr (root_given G p n cs below j x r h)) (node_walked O p n cs rest A here below S touch own faith) in
      let e : suc n + size cs ≡ suc (n + size cs) = omega arith in
      forest_walked O p n cs rest A here below S touch own
      (walk (Before G O p n cs rest) rest (suc (n + size cs)) (around_rest G (Edge G F 0) O p n cs rest A) (λ i q ds s. within i q ds (inr (inr s)))
      (ThenBelow G p n cs S) (touch_rest G p n cs below rest S touch own)
      (λ j x r h. inl (inl (rooted (suc j) x r (h.0, h.1, inr (inr h.2), h.3))))
      (subst (λ m. Faithful (Edge G F 0) num (ThenBelow G p n cs S) (next m)) e children))

-- ── the whole tree ──
module _ (G : Grammar) (L : Lawful G) (k : ℕ) (like : ℕ → Occ → Occ → Type 0) (num : Inst → ℕ) (next : ℕ → ℕ) where
  -- the root's settings come first
  module _ (p : ℕ) (cs : Bush) (kinded : Kinded G (grow p cs nil) (k ∷ [])) (told : Told G (grow p cs nil) like)
      (numbered : Numbered G (grow p cs nil) like num next) where
    abbrev W : Inst → Inst → Type 0
    W = Edge G (grow p cs nil) 0

    abbrev First : Inst → Type 0
    First x = ⊥ ⊎ Given (setting 0 cs) (occurrences G 0 (G.left p ∷ [])) x

    here : Sub (grow p cs nil) 0 0 p cs
    here = inl (refl, refl, refl)

    given_top : (x : Inst) → Given (setting 0 cs) (occurrences G 0 (G.left p ∷ [])) x → (x.0 ≡ 0) × (x.1 < G.settings (G.left p))
    given_top x (o, m, e) = let (e₀, l, u) = top_exists G p o m in (ap (λ (z : Inst). z.0) e ∙ ap (λ s. get_or (0 ∷ roots cs 1) s 0) e₀, rw e l)

    tells_top : Tells W num (like 0) (setting 0 cs) [] (occurrences G 0 (G.left p ∷ []))
    tells_top o o' (inl m) m' = absurd (Memᴰ.not-nil m)
    tells_top o o' (inr m) m' = told 0 p cs here o o' (top_exists G p o m).2 (top_exists G p o' m').2

    root_walked : Faithful W num First (next 0)
    root_walked =
        run W num (like 0) (setting 0 cs) (occurrences G 0 (G.left p ∷ [])) [] 0 (next 0) (λ x. ⊥) (faithful_none W num)
        (λ o m. absurd (Memᴰ.not-nil m)) (λ x o s. absurd s) tells_top (numbered.top p cs here)

    touch_top : (x : Inst) → First x → Touch (grow p cs nil) 0 x
    touch_top x (inl s) u = absurd s
    touch_top x (inr g) u = (0, (given_top x g).0)

    rooted_top : (j : ℕ) (x : Inst) → Root (grow p cs nil) 0 j x.0 → Fitted G (grow p cs nil) 0 x → First x
    rooted_top j x r (q, ds, s, u) =
        let e : x.0 ≡ 0 = (one_tree G (grow p cs nil) k 0 j x.0 kinded r).1 in
        let s' : Sub (grow p cs nil) 0 0 q ds = rw e at s in
        let u' : x.1 < G.settings (G.left p) = rw (sub_one (grow p cs nil) 0 0 p q cs ds here s').0 u in
        inr ((0, x.1), occurrence_listed G 0 (G.left p ∷ []) (0, x.1) (0, refl, omega arith, u'), Σ_path e refl)

    all_fitted : (x : Inst) → First x ⊎ Fitted G (grow p cs nil) 0 x → Fitted G (grow p cs nil) 0 x
    all_fitted x (inl (inl s)) = absurd s
    all_fitted x (inl (inr g)) = let (e, l) = given_top x g in (p, cs, inl (e, refl, refl), l)
    all_fitted x (inr u) = u

    tree_walked : Faithful W num (Fitted G (grow p cs nil) 0) (next (0 + size (grow p cs nil)))
    tree_walked =
        faithful_iff W num (λ x. First x ⊎ Fitted G (grow p cs nil) 0 x) (Fitted G (grow p cs nil) 0) (next (0 + size (grow p cs nil))) all_fitted (λ x u. inr u)
        (walk G L (grow p cs nil) (k ∷ []) kinded like num next told numbered Nowhere (grow p cs nil) 0 (around_all G (grow p cs nil) 0) (λ i q ds s. s)
        First touch_top rooted_top root_walked)

  from_top : (f : Bush) → Kinded G f (k ∷ []) → Told G f like → Numbered G f like num next
      → Faithful (Edge G f 0) num (Fitted G f 0) (next (0 + size f))
  from_top nil kinded told numbered = absurd kinded
  from_top (grow p cs (grow q ds more)) kinded told numbered = absurd kinded.2
  from_top (grow p cs nil) kinded told numbered = tree_walked p cs kinded told numbered

  module _ (f : Bush) (kinded : Kinded G f (k ∷ [])) (told : Told G f like) (numbered : Numbered G f like num next) where
    faithful : Faithful (Edge G f 0) num (Fitted G f 0) (next (size f))
    faithful = let e : 0 + size f ≡ size f = omega arith in rw e at (from_top f kinded told numbered)

    -- Two settings, of whatever nodes, have one number exactly where a chain joins them.
    pub numbers_exact : (x y : Inst) → Fitted G f 0 x → Fitted G f 0 y → (num x ≡ num y) ↔ Chain G f 0 x y
    numbers_exact = faithful.exact

    -- The numbers in use are those below the number of groups, next (size f).
    pub numbers_used : (g : ℕ) → (g < next (size f)) ↔ ((x : Inst) × Fitted G f 0 x × (num x ≡ g))
    numbers_used g = (faithful.used g, λ (x, s, e). rw e at (faithful.low x s))
