-- One production instance: the chains between its settings, whatever stands around it, are the closure of its own ties, of what its children
-- chain below, and of what is chained at its node from outside.
use mathlib.Core.Path.{refl, subst, subst₂}
use mathlib.Core.Logic.{◌⊎◌, inl, inr, ◌↔◌}
use Prim.Native.Nat.{ℕ, zero, suc, ◌≤◌}
use native.Mathlib.Omega.{arith}
use Rattle.chains.specs.Grammar.{Occ, Grammar, Tied}
use Rattle.chains.specs.Tree.{Bush, count, Root, Slot, Inst, At}
use Rattle.chains.specs.Chain.{Own, Edge, Chain, Slotwise, Join, Closure, Eqv, done, fwd, bwd}
use Rattle.chains.proofs.Closure.{trans, back, bind, Glued, glue}
use Rattle.chains.proofs.Range.{Top, Border, Here, Under, Clear, root_in, root_fun, slot_exists, at_one, at_fun, here_cases, own_here, edge_in}
use Rattle.chains.proofs.Forest.{same_root}

-- what the j-th child chains among its own settings
abbrev pub Below : Grammar → ℕ → Bush → ℕ → ℕ → ℕ → Type 0
Below G n cs j a b = (m : ℕ) × Root cs (suc n) j m × Chain G cs (suc n) (m, a) (m, b)

-- what each slot relates: slot 0 what O chains outside, a child's slot what the child chains below
abbrev pub Seen : Grammar → ℕ → Bush → (O : Inst → Inst → Type 0) → ℕ → ℕ → ℕ → Type 0
Seen G n cs O = Slotwise (λ a b. Eqv O (n, a) (n, b)) (Below G n cs)

module _ (G : Grammar) (p n : ℕ) (cs : Bush) where
  -- the instance's own ties or O's; its own ties or a child's chains
  abbrev Outer : (O : Inst → Inst → Type 0) → Inst → Inst → Type 0
  Outer O x y = Own G p n cs x y ⊎ O x y

  abbrev Inner : Inst → Inst → Type 0
  Inner x y = Own G p n cs x y ⊎ (Border n cs x × Border n cs y × Chain G cs (suc n) x y)

  -- W is the whole tree's edges, O those that are neither the instance's own nor below it
  module _ (W O : Inst → Inst → Type 0) (split : (x y : Inst) → W x y → (Own G p n cs x y ⊎ O x y) ⊎ Edge G cs (suc n) x y)
      (clear : (x y : Inst) → O x y → Clear n cs x × Clear n cs y) where
    -- ── gluing twice: first the children are cut off at their roots, then what is outside at the node ──
    abbrev Shore : Inst → Type 0
    Shore x = Here n cs x ⊎ Clear n cs x

    on_shore : (x y : Inst) → Outer O x y → Shore x × Shore y
    on_shore x y (inl e) = let (h, h') = own_here G p n cs x y e in (inl h, inl h')
    on_shore x y (inr e) = let (h, h') = clear x y e in (inr h, inr h')

    shore_meet : (x : Inst) → Shore x → Under n cs x → Border n cs x
    shore_meet x (inl h) u = elim (here_cases n cs x h) [ inl t ↦ absurd (omega arith) | inr b ↦ b ]
    shore_meet x (inr c) u = absurd (c u)

    regroup : (x y : Inst) → Glued (Outer O) (Edge G cs (suc n)) (Border n cs) x y → Inner x y ⊎ O x y
    regroup x y (inl (inl e)) = inl (inl e)
    regroup x y (inl (inr e)) = inr e
    regroup x y (inr g) = inl (inr g)

    inner_here : (x y : Inst) → Inner x y → Here n cs x × Here n cs y
    inner_here x y (inl e) = own_here G p n cs x y e
    inner_here x y (inr ((i, r), (j, s), c)) = (((suc i, x.1), (r, refl)), ((suc j, y.1), (s, refl)))

    clear_meet : (x : Inst) → Here n cs x → Clear n cs x → Top n x
    clear_meet x h c = elim (here_cases n cs x h) [ inl t ↦ t | inr b ↦ absurd (c (root_in cs (suc n) b.0 x.0 b.1)) ]

    abbrev Cut : Inst → Inst → Type 0
    Cut = Glued Inner O (Top n)

    to_cut : {x y : Inst} → Here n cs x → Here n cs y → Eqv W x y → Eqv Cut x y
    to_cut hx hy c =
        glue (Glued (Outer O) (Edge G cs (suc n)) (Border n cs)) Inner O (Here n cs) (Clear n cs) (Top n) regroup inner_here clear clear_meet hx hy
        (glue W (Outer O) (Edge G cs (suc n)) Shore (Under n cs) (Border n cs) split on_shore (edge_in G cs (suc n)) shore_meet (inl hx) (inl hy) c)

    -- ── from settings to occurrences ──
    abbrev Lands : Occ → Inst → Type 0
    Lands o y = (o' : Occ) × At n cs o' y × Closure G p (Seen G n cs O) o o'

    by_child : (o : Occ) (x y : Inst) → At n cs o x → Border n cs x → Border n cs y → Chain G cs (suc n) x y → Lands o y
    by_child o x y h (i, ri) (j, rj) c =
        let ij = same_root G cs (suc n) i j x y ri rj c in
        let rj' : Root cs (suc n) i y.0 = rw ij rj in
        let c' : Chain G cs (suc n) x (x.0, y.1) = subst (λ m. Chain G cs (suc n) x (m, y.1)) (root_fun cs (suc n) i y.0 x.0 rj' ri) c in
        let eo = at_one n cs o (suc i, x.1) x h (ri, refl) in
        let st : Closure G p (Seen G n cs O) (suc i, x.1) (suc i, y.1) = fwd done (inr (refl, (x.0, ri, c'))) in
        ((suc i, y.1), (rj', refl), rw eo st)

    by_top : (o : Occ) (x y : Inst) → At n cs o x → Top n x → Top n y → Eqv O x y → Lands o y
    by_top o x y h t t' c =
        let eo = at_one n cs o (0, x.1) x h (t, refl) in
        let c' : Eqv O (n, x.1) (n, y.1) = subst₂ (λ m m'. Eqv O (m, x.1) (m', y.1)) t t' c in
        let st : Closure G p (Seen G n cs O) (0, x.1) (0, y.1) = fwd done (inr (refl, c')) in
        ((0, y.1), (t', refl), rw eo st)

    ahead : (o : Occ) (x y : Inst) → At n cs o x → Cut x y → Lands o y
    ahead o x y h (inl (inl (q, q', b, hx, hy))) = (q', hy, rw (at_one n cs o q x h hx) (fwd done (inl b)))
    ahead o x y h (inl (inr (bx, by, c))) = by_child o x y h bx by c
    ahead o x y h (inr (tx, ty, c)) = by_top o x y h tx ty c

    behind : (o : Occ) (x y : Inst) → At n cs o x → Cut y x → Lands o y
    behind o x y h (inl (inl (q, q', b, hy, hx))) = (q, hy, rw (at_one n cs o q' x h hx) (bwd done (inl b)))
    behind o x y h (inl (inr (by, bx, c))) = by_child o x y h bx by (back c)
    behind o x y h (inr (ty, tx, c)) = by_top o x y h tx ty (back c)

    lands : (o : Occ) {x y : Inst} → At n cs o x → Eqv Cut x y → Lands o y
    lands o h done = (o, h, done)
    lands o h (fwd {y = y} {z = z} d e) =
        let (q, hq, c) = lands o h d in
        let (q', hq', c') = ahead q y z hq e in
        (q', hq', trans c c')
    lands o h (bwd {y = y} {z = z} d e) =
        let (q, hq, c) = lands o h d in
        let (q', hq', c') = behind q y z hq e in
        (q', hq', trans c c')

    -- a chain of the whole tree between two settings of the instance is one of the closure
    pub local : (o o' : Occ) (x y : Inst) → At n cs o x → At n cs o' y → Eqv W x y → Closure G p (Seen G n cs O) o o'
    local o o' x y h h' c =
        let (q, hq, d) = lands o h (to_cut (o, h) (o', h') c) in
        rw (at_one n cs o' q y h' hq) d

  -- the converse, where the ties name slots that are there: each slot's relation τ s is of W's chains
  module _ (W : Inst → Inst → Type 0) (τ : ℕ → ℕ → ℕ → Type 0)
      (fits : (o o' : Occ) → Tied G p o o' → (o.0 ≤ count cs) × (o'.0 ≤ count cs))
      (own : (x y : Inst) → Own G p n cs x y → Eqv W x y)
      (each : (s a b m : ℕ) → Slot n cs s m → τ s a b → Eqv W (m, a) (m, b)) where
    abbrev Arrives : Occ → Inst → Type 0
    Arrives o' x = (y : Inst) × At n cs o' y × Eqv W x y

    place : (o : Occ) → o.0 ≤ count cs → (x : Inst) × At n cs o x
    place o h = let (m, r) = slot_exists n cs o.0 h in ((m, o.1), (r, refl))

    hop : (o o' : Occ) (x : Inst) → At n cs o x → Join G p τ o o' → Arrives o' x
    hop o o' x h (inl b) = let (y, hy) = place o' (fits o o' b).1 in (y, hy, own x y (o, o', b, h, hy))
    hop o o' x (s, e) (inr (eq, t)) =
        let s' : Slot n cs o'.0 x.0 = rw eq at s in
        let c : Eqv W (x.0, x.1) (x.0, o'.1) = rw e at (each o.0 o.1 o'.1 x.0 s t) in
        ((x.0, o'.1), (s', refl), c)

    hop_back : (o o' : Occ) (x : Inst) → At n cs o x → Join G p τ o' o → Arrives o' x
    hop_back o o' x h (inl b) = let (y, hy) = place o' (fits o' o b).0 in (y, hy, back (own y x (o', o, b, hy, h)))
    hop_back o o' x (s, e) (inr (eq, t)) =
        let s' : Slot n cs o'.0 x.0 = rw (← eq) at s in
        let c : Eqv W (x.0, o'.1) (x.0, x.1) = rw e at (each o'.0 o'.1 o.1 x.0 s' t) in
        ((x.0, o'.1), (s', refl), back c)

    arrives : (o : Occ) {o' : Occ} (x : Inst) → At n cs o x → Closure G p τ o o' → Arrives o' x
    arrives o x h done = (x, h, done)
    arrives o x h (fwd {y = q} {z = q'} d e) =
        let (y, hy, c) = arrives o x h d in
        let (z, hz, c') = hop q q' y hy e in
        (z, hz, trans c c')
    arrives o x h (bwd {y = q} {z = q'} d e) =
        let (y, hy, c) = arrives o x h d in
        let (z, hz, c') = hop_back q q' y hy e in
        (z, hz, trans c c')

    pub whole : (o o' : Occ) (x y : Inst) → At n cs o x → At n cs o' y → Closure G p τ o o' → Eqv W x y
    whole o o' x y h h' c =
        let (z, hz, d) = arrives o x h c in
        rw (at_fun n cs o' y z h' hz) d

-- a closure grows with its slots' relations
module _ (G : Grammar) (p : ℕ) (σ τ : ℕ → ℕ → ℕ → Type 0) where
  pub join_bind : ((s a b : ℕ) → σ s a b → Closure G p τ (s, a) (s, b)) → {o o' : Occ} → Closure G p σ o o' → Closure G p τ o o'
  join_bind f c = bind go c
    where
      go : (q q' : Occ) → Join G p σ q q' → Closure G p τ q q'
      go q q' (inl b) = fwd done (inl b)
      go q q' (inr (e, s)) = subst (λ m. Closure G p τ q (m, q'.1)) e (f q.0 q.1 q'.1 s)

  pub join_mono : ((s a b : ℕ) → σ s a b → τ s a b) → {o o' : Occ} → Closure G p σ o o' → Closure G p τ o o'
  join_mono f c = join_bind (λ s a b h. fwd done (inr (refl, f s a b h))) c

-- a closure is that of any slots' relations that hold at the same places
pub closure_iff : (G : Grammar) (p : ℕ) (ρ ρ' : ℕ → ℕ → Type 0) (σ σ' : ℕ → ℕ → ℕ → Type 0) → ((a b : ℕ) → ρ a b ↔ ρ' a b)
    → ((j a b : ℕ) → σ j a b ↔ σ' j a b)
    → (o o' : Occ) → Closure G p (Slotwise ρ σ) o o' ↔ Closure G p (Slotwise ρ' σ') o o'
closure_iff G p ρ ρ' σ σ' hρ hσ o o' = (join_mono G p (Slotwise ρ σ) (Slotwise ρ' σ') to, join_mono G p (Slotwise ρ' σ') (Slotwise ρ σ) from)
  where
    to : (s a b : ℕ) → Slotwise ρ σ s a b → Slotwise ρ' σ' s a b
    to zero a b = (hρ a b).0
    to (suc j) a b = (hσ j a b).0

    from : (s a b : ℕ) → Slotwise ρ' σ' s a b → Slotwise ρ σ s a b
    from zero a b = (hρ a b).1
    from (suc j) a b = (hσ j a b).1
