-- Forests with a hole: where the hole is, which dependences are outside it, and how what is outside moves when the tree in the hole changes.
use mathlib.Core.Path.{◌≡◌, refl, sym, ◌∙◌, ap, Σ_path}
use mathlib.Core.Logic.Iff
use mathlib.Core.Logic.{◌⊎◌, inl, inr, ◌↔◌}
use mathlib.Core.List.{List, [], ◌∷◌, ◌++◌, append_assoc, append-nil}
use Prim.Native.Nat.{ℕ, zero, suc, ◌+◌, ◌≤◌, ◌<◌}
use native.Mathlib.Omega.{arith}
use lib.ListN.{length, length-append}
use Rattle.chains.specs.Grammar.{Occ, Grammar}
use Rattle.chains.specs.Tree.{Bush, nil, grow, size, flat, Kinded, Root, Slot, Inst, At, Sub, roots}
use Rattle.chains.specs.Chain.{Own, Edge}
use Rattle.chains.specs.Replace.{Hole, here, inside, after, plug, spot, prefix, suffix, Moves, Shifts}
use Rattle.chains.proofs.Range.{root_in, own_in, edge_in}
use Rattle.chains.proofs.Forest.{Tree}
use Rattle.chains.proofs.Local.{closure_iff}
use Rattle.chains.proofs.Upward.{Up}
use Rattle.chains.proofs.Nodes.{sub_in, flat_length}
use Rattle.chains.proofs.Moved.{root_move, sub_move, edge_move}

-- ── where the hole is ──
pub spot_in : (h : Hole) (n q : ℕ) (ds : Bush) → (n ≤ spot h n) × (spot h n + size ds < n + size (plug h q ds))
spot_in (here rest) n q ds = omega arith
spot_in (inside p h rest) n q ds = let k = spot_in h (suc n) q ds in omega arith
spot_in (after p cs h) n q ds = let k = spot_in h (suc (n + size cs)) q ds in omega arith

pub plug_size : (h : Hole) (q q' : ℕ) (ds ds' : Bush) → size (plug h q ds) + size ds' ≡ size (plug h q' ds') + size ds
plug_size (here rest) q q' ds ds' = omega arith
plug_size (inside p h rest) q q' ds ds' = let k = plug_size h q q' ds ds' in omega arith
plug_size (after p cs h) q q' ds ds' = let k = plug_size h q q' ds ds' in omega arith

-- the tree in the hole is the subtree at its node (for request 4: nothing cites it yet); and every subtree of a forest leaves a hole
pub plug_sub : (h : Hole) (n q : ℕ) (ds : Bush) → Sub (plug h q ds) n (spot h n) q ds
plug_sub (here rest) n q ds = inl (refl, refl, refl)
plug_sub (inside p h rest) n q ds = inr (inl (plug_sub h (suc n) q ds))
plug_sub (after p cs h) n q ds = inr (inr (plug_sub h (suc (n + size cs)) q ds))

pub hole_of : (f : Bush) (n i q : ℕ) (ds : Bush) → Sub f n i q ds → (h : Hole) × (plug h q ds ≡ f) × (spot h n ≡ i)
hole_of nil n i q ds s = absurd s
hole_of (grow p cs rest) n i q ds (inl (ei, ep, ec)) = (here rest, cc, sym ei)
hole_of (grow p cs rest) n i q ds (inr (inl s)) = let (h, e, ei) = hole_of cs (suc n) i q ds s in (inside p h rest, ap (λ c. grow p c rest) e, ei)
hole_of (grow p cs rest) n i q ds (inr (inr s)) =
    let (h, e, ei) = hole_of rest (suc (n + size cs)) i q ds s in (after p cs h, ap (λ c. grow p cs c) e, ei)

-- ── the hole in preorder ──
pub plug_flat : (h : Hole) (q : ℕ) (ds : Bush) → flat (plug h q ds) ≡ prefix h ++ (flat (grow q ds nil) ++ suffix h)
plug_flat (here rest) q ds = ap (λ l. q ∷ (l ++ flat rest)) (sym (append-nil (flat ds)))
plug_flat (inside p h rest) q ds =
    ap (λ l. p ∷ l) (ap (λ l. l ++ flat rest) (plug_flat h q ds) ∙ (append_assoc (prefix h) (flat (grow q ds nil) ++ suffix h) (flat rest)
    ∙ ap (λ l. prefix h ++ l) (append_assoc (flat (grow q ds nil)) (suffix h) (flat rest))))
plug_flat (after p cs h) q ds =
    ap (λ l. p ∷ l) (ap (λ l. flat cs ++ l) (plug_flat h q ds) ∙ sym (append_assoc (flat cs) (prefix h) (flat (grow q ds nil) ++ suffix h)))

pub prefix_length : (h : Hole) (n : ℕ) → n + length (prefix h) ≡ spot h n
prefix_length (here rest) n = omega arith
prefix_length (inside p h rest) n = let e = prefix_length h (suc n) in omega arith
prefix_length (after p cs h) n =
    let e = prefix_length h (suc (n + size cs)) in
    let l = length-append (flat cs) (prefix h) in
    let c = flat_length cs in
    omega arith

-- ── what is outside moves ──
pub moves_back : (i d d' m m' : ℕ) → Moves i d d' m m' → Moves i d' d m' m
moves_back i d d' m m' (inl a) = inl (omega arith)
moves_back i d d' m m' (inr a) = inr (omega arith)

pub moves_one : (i d d' m m' m'' : ℕ) → Moves i d d' m m' → Moves i d d' m m'' → m' ≡ m''
moves_one i d d' m m' m'' (inl a) (inl b) = omega arith
moves_one i d d' m m' m'' (inl a) (inr b) = absurd (omega arith)
moves_one i d d' m m' m'' (inr a) (inl b) = absurd (omega arith)
moves_one i d d' m m' m'' (inr a) (inr b) = omega arith

-- up to i nothing moves, and beyond it everything by the same number
moves_stay : (i d d' m m' : ℕ) → Moves i d d' m m' → m ≤ i → m' ≡ m
moves_stay i d d' m m' (inl a) h = a.1
moves_stay i d d' m m' (inr a) h = absurd (omega arith)

moves_on : (i d d' m m' : ℕ) → Moves i d d' m m' → i < m → (i + d < m) × (m' + d ≡ m + d')
moves_on i d d' m m' (inl a) h = absurd (omega arith)
moves_on i d d' m m' (inr a) h = a

pub shifts_back : (i d d' : ℕ) (x x' : Inst) → Shifts i d d' x x' → Shifts i d' d x' x
shifts_back i d d' x x' (m, e) = (moves_back i d d' x.0 x'.0 m, sym e)

pub shifts_one : (i d d' : ℕ) (x y z : Inst) → Shifts i d d' x y → Shifts i d d' x z → y ≡ z
shifts_one i d d' x y z (m, e) (m', e') = Σ_path (moves_one i d d' x.0 y.0 z.0 m m') (e ∙ sym e')

module _ (q q' : ℕ) (ds ds' : Bush) where
  root_shift : (h : Hole) (n j m : ℕ) → Root (plug h q ds) n j m → (m' : ℕ) × Root (plug h q' ds') n j m' × Moves (spot h n) (size ds) (size ds') m m'
  root_shift (here rest) n zero m r = (n, refl, inl (omega arith))
  root_shift (here rest) n (suc j) m r =
      let (m', r', e) = root_move rest (suc (n + size ds)) (suc (n + size ds')) j m r in
      let k = root_in rest (suc (n + size ds)) j m r in
      (m', r', inr (omega arith))
  root_shift (inside p h rest) n zero m r = let k = spot_in h (suc n) q ds in (n, refl, inl (omega arith))
  root_shift (inside p h rest) n (suc j) m r =
      let (m', r', e) = root_move rest (suc (n + size (plug h q ds))) (suc (n + size (plug h q' ds'))) j m r in
      let k = root_in rest (suc (n + size (plug h q ds))) j m r in
      let l = spot_in h (suc n) q ds in
      let z = plug_size h q q' ds ds' in
      (m', r', inr (omega arith))
  root_shift (after p cs h) n zero m r = let k = spot_in h (suc (n + size cs)) q ds in (n, refl, inl (omega arith))
  root_shift (after p cs h) n (suc j) m r = root_shift h (suc (n + size cs)) j m r

  at_shift : (h : Hole) (n : ℕ) (o : Occ) (x : Inst) → At n (plug h q ds) o x
      → (x' : Inst) × At n (plug h q' ds') o x' × Shifts (spot h (suc n)) (size ds) (size ds') x x'
  at_shift h n o x (s, e) = go o.0 s e
    where
      go : (t : ℕ) → Slot n (plug h q ds) t x.0 → o.1 ≡ x.1
          → (x' : Inst) × (Slot n (plug h q' ds') t x'.0 × (o.1 ≡ x'.1)) × Shifts (spot h (suc n)) (size ds) (size ds') x x'
      go zero r e = let k = spot_in h (suc n) q ds in (x, (r, e), (inl (omega arith), refl))
      go (suc j) r e = let (m', r', k) = root_shift h (suc n) j x.0 r in ((m', x.1), (r', e), (k, refl))

-- ── the dependences outside the hole ──
abbrev pub Outer : Grammar → Hole → ℕ → ℕ → Bush → Inst → Inst → Type 0
Outer G (here rest) n q ds x y = Edge G rest (suc (n + size ds)) x y
Outer G (inside p h rest) n q ds x y = Own G p n (plug h q ds) x y ⊎ (Outer G h (suc n) q ds x y ⊎ Edge G rest (suc (n + size (plug h q ds))) x y)
Outer G (after p cs h) n q ds x y = Own G p n cs x y ⊎ (Edge G cs (suc n) x y ⊎ Outer G h (suc (n + size cs)) q ds x y)

module _ (G : Grammar) where
  pub plug_split : (h : Hole) (n q : ℕ) (ds : Bush) (x y : Inst) → Edge G (plug h q ds) n x y → Outer G h n q ds x y ⊎ Tree G q (spot h n) ds x y
  plug_split (here rest) n q ds x y (inl e) = inr (inl e)
  plug_split (here rest) n q ds x y (inr (inl e)) = inr (inr e)
  plug_split (here rest) n q ds x y (inr (inr e)) = inl e
  plug_split (inside p h rest) n q ds x y (inl e) = inl (inl e)
  plug_split (inside p h rest) n q ds x y (inr (inl e)) = elim (plug_split h (suc n) q ds x y e) [ inl a ↦ inl (inr (inl a)) | inr b ↦ inr b ]
  plug_split (inside p h rest) n q ds x y (inr (inr e)) = inl (inr (inr e))
  plug_split (after p cs h) n q ds x y (inl e) = inl (inl e)
  plug_split (after p cs h) n q ds x y (inr (inl e)) = inl (inr (inl e))
  plug_split (after p cs h) n q ds x y (inr (inr e)) = elim (plug_split h (suc (n + size cs)) q ds x y e) [ inl a ↦ inl (inr (inr a)) | inr b ↦ inr b ]

  pub plug_outer : (h : Hole) (n q : ℕ) (ds : Bush) (x y : Inst) → Outer G h n q ds x y → Edge G (plug h q ds) n x y
  plug_outer (here rest) n q ds x y e = inr (inr e)
  plug_outer (inside p h rest) n q ds x y (inl e) = inl e
  plug_outer (inside p h rest) n q ds x y (inr (inl e)) = inr (inl (plug_outer h (suc n) q ds x y e))
  plug_outer (inside p h rest) n q ds x y (inr (inr e)) = inr (inr e)
  plug_outer (after p cs h) n q ds x y (inl e) = inl e
  plug_outer (after p cs h) n q ds x y (inr (inl e)) = inr (inl e)
  plug_outer (after p cs h) n q ds x y (inr (inr e)) = inr (inr (plug_outer h (suc (n + size cs)) q ds x y e))

  pub plug_inner : (h : Hole) (n q : ℕ) (ds : Bush) (x y : Inst) → Tree G q (spot h n) ds x y → Edge G (plug h q ds) n x y
  plug_inner (here rest) n q ds x y (inl e) = inl e
  plug_inner (here rest) n q ds x y (inr e) = inr (inl e)
  plug_inner (inside p h rest) n q ds x y e = inr (inl (plug_inner h (suc n) q ds x y e))
  plug_inner (after p cs h) n q ds x y e = inr (inr (plug_inner h (suc (n + size cs)) q ds x y e))

  -- each of them is there, moved, with any other tree in the hole
  pub outer_shift : (q q' : ℕ) (ds ds' : Bush) (h : Hole) (n : ℕ) (x y : Inst) → Outer G h n q ds x y
      → (x' : Inst) × (y' : Inst) × Shifts (spot h n) (size ds) (size ds') x x' × Shifts (spot h n) (size ds) (size ds') y y' × Outer G h n q' ds' x' y'
  outer_shift q q' ds ds' (here rest) n x y e =
      let (x', y', mx, my, e') = edge_move G rest (suc (n + size ds)) (suc (n + size ds')) x y e in
      let k = edge_in G rest (suc (n + size ds)) x y e in
      (x', y', (inr (omega arith), mx.1), (inr (omega arith), my.1), e')
  outer_shift q q' ds ds' (inside p h rest) n x y (inl (o, o', b, hx, hy)) =
      let (x', hx', sx) = at_shift q q' ds ds' h n o x hx in
      let (y', hy', sy) = at_shift q q' ds ds' h n o' y hy in
      (x', y', sx, sy, inl (o, o', b, hx', hy'))
  outer_shift q q' ds ds' (inside p h rest) n x y (inr (inl e)) =
      let (x', y', sx, sy, e') = outer_shift q q' ds ds' h (suc n) x y e in
      (x', y', sx, sy, inr (inl e'))
  outer_shift q q' ds ds' (inside p h rest) n x y (inr (inr e)) =
      let (x', y', mx, my, e') = edge_move G rest (suc (n + size (plug h q ds))) (suc (n + size (plug h q' ds'))) x y e in
      let k = edge_in G rest (suc (n + size (plug h q ds))) x y e in
      let l = spot_in h (suc n) q ds in
      let z = plug_size h q q' ds ds' in
      (x', y', (inr (omega arith), mx.1), (inr (omega arith), my.1), inr (inr e'))
  outer_shift q q' ds ds' (after p cs h) n x y (inl e) =
      let k = own_in G p n cs x y e in
      let l = spot_in h (suc (n + size cs)) q ds in
      (x, y, (inl (omega arith), refl), (inl (omega arith), refl), inl e)
  outer_shift q q' ds ds' (after p cs h) n x y (inr (inl e)) =
      let k = edge_in G cs (suc n) x y e in
      let l = spot_in h (suc (n + size cs)) q ds in
      (x, y, (inl (omega arith), refl), (inl (omega arith), refl), inr (inl e))
  outer_shift q q' ds ds' (after p cs h) n x y (inr (inr e)) =
      let (x', y', sx, sy, e') = outer_shift q q' ds ds' h (suc (n + size cs)) x y e in
      (x', y', sx, sy, inr (inr e'))

  -- ── kinds ──
  -- two trees that a hole of a well-kinded forest takes have one kind
  pub plug_kind : (h : Hole) (ks : List ℕ) (q q' : ℕ) (ds ds' : Bush) → Kinded G (plug h q ds) ks → Kinded G (plug h q' ds') ks
      → (k : ℕ) × Kinded G (grow q ds nil) (k ∷ []) × Kinded G (grow q' ds' nil) (k ∷ [])
  plug_kind (here rest) [] q q' ds ds' k k' = absurd k
  plug_kind (here rest) (x ∷ ks) q q' ds ds' k k' = (x, (k.0, k.1, tt), (k'.0, k'.1, tt))
  plug_kind (inside p h rest) [] q q' ds ds' k k' = absurd k
  plug_kind (inside p h rest) (x ∷ ks) q q' ds ds' k k' = plug_kind h (G.kids p) q q' ds ds' k.1 k'.1
  plug_kind (after p cs h) [] q q' ds ds' k k' = absurd k
  plug_kind (after p cs h) (x ∷ ks) q q' ds ds' k k' = plug_kind h ks q q' ds ds' k.2 k'.2

  -- and a tree of that kind may stand there
  pub plug_kinded : (h : Hole) (ks : List ℕ) (q q' : ℕ) (ds ds' : Bush) → Kinded G (plug h q ds) ks → Kinded G (grow q' ds' nil) (G.left q ∷ [])
      → Kinded G (plug h q' ds') ks
  plug_kinded (here rest) [] q q' ds ds' k k' = absurd k
  plug_kinded (here rest) (x ∷ ks) q q' ds ds' k k' = ((k'.0.0, k'.0.1 ∙ k.0.1), k'.1, k.2)
  plug_kinded (inside p h rest) [] q q' ds ds' k k' = absurd k
  plug_kinded (inside p h rest) (x ∷ ks) q q' ds ds' k k' = (k.0, plug_kinded h (G.kids p) q q' ds ds' k.1 k', k.2)
  plug_kinded (after p cs h) [] q q' ds ds' k k' = absurd k
  plug_kinded (after p cs h) (x ∷ ks) q q' ds ds' k k' = (k.0, k.1, plug_kinded h ks q q' ds ds' k.2 k')

  -- ── what goes up ──
  module _ (q q' : ℕ) (ds ds' : Bush) (same : (a b : ℕ) → Up G (grow q ds nil) 0 a b ↔ Up G (grow q' ds' nil) 0 a b) where
    pub plug_up : (h : Hole) (j a b : ℕ) → Up G (plug h q ds) j a b ↔ Up G (plug h q' ds') j a b
    plug_up (here rest) zero a b = same a b
    plug_up (here rest) (suc j) a b = Iff.rfl
    plug_up (inside p h rest) zero a b =
        closure_iff G p (λ a b. ⊥) (λ a b. ⊥) (Up G (plug h q ds)) (Up G (plug h q' ds')) (λ a b. Iff.rfl) (plug_up h) (0, a) (0, b)
    plug_up (inside p h rest) (suc j) a b = Iff.rfl
    plug_up (after p cs h) zero a b = Iff.rfl
    plug_up (after p cs h) (suc j) a b = plug_up h j a b

    -- m' is a node of f with the production p, or with the new one where p was the old, and its subtree relates what the subtree (p, cs) does
    abbrev pub Counterpart : Bush → ℕ → ℕ → ℕ → Bush → Type 0
    Counterpart f n m' p cs = (p' : ℕ) × (cs' : Bush) × Sub f n m' p' cs' × ((p ≡ p') ⊎ ((p ≡ q) × (p' ≡ q')))
        × ((a b : ℕ) → Up G (grow p cs nil) 0 a b ↔ Up G (grow p' cs' nil) 0 a b)

    moved_counterpart : (f : Bush) (n n' m m' p : ℕ) (cs : Bush) → m' + n ≡ m + n' → Sub f n m p cs → Counterpart f n' m' p cs
    moved_counterpart f n n' m m' p cs e s =
        let (m'', s', e') = sub_move f n n' m p cs s in
        let em : m'' ≡ m' = omega arith in
        (p, cs, rw em at s', inl refl, λ a b. Iff.rfl)

    -- every node outside the hole, and the one at it, has its counterpart
    pub sub_counterpart : (h : Hole) (n m m' p : ℕ) (cs : Bush) → Moves (spot h n) (size ds) (size ds') m m' → Sub (plug h q ds) n m p cs
        → Counterpart (plug h q' ds') n m' p cs
    sub_counterpart (here rest) n m m' p cs mv (inl (em, ep, ec)) =
        let e = moves_stay n (size ds) (size ds') m m' mv (omega arith) in
        (q', ds', inl (e ∙ em, refl, refl), inr (sym ep, refl), rw (← ep, ← ec) same)
    sub_counterpart (here rest) n m m' p cs mv (inr (inl s)) =
        let i = sub_in ds (suc n) m p cs s in
        let k = moves_on n (size ds) (size ds') m m' mv (omega arith) in
        absurd (omega arith)
    sub_counterpart (here rest) n m m' p cs mv (inr (inr s)) =
        let i = sub_in rest (suc (n + size ds)) m p cs s in
        let k = moves_on n (size ds) (size ds') m m' mv (omega arith) in
        let (p', cs', s', e, u) = moved_counterpart rest (suc (n + size ds)) (suc (n + size ds')) m m' p cs (omega arith) s in
        (p', cs', inr (inr s'), e, u)
    sub_counterpart (inside p₀ h rest) n m m' p cs mv (inl (em, ep, ec)) =
        let i = spot_in h (suc n) q ds in
        let e = moves_stay (spot h (suc n)) (size ds) (size ds') m m' mv (omega arith) in
        (p₀, plug h q' ds', inl (e ∙ em, refl, refl), inl (sym ep), rw (← ep, ← ec) (plug_up (inside p₀ h nil) 0))
    sub_counterpart (inside p₀ h rest) n m m' p cs mv (inr (inl s)) =
        let (p', cs', s', e, u) = sub_counterpart h (suc n) m m' p cs mv s in
        (p', cs', inr (inl s'), e, u)
    sub_counterpart (inside p₀ h rest) n m m' p cs mv (inr (inr s)) =
        let i = sub_in rest (suc (n + size (plug h q ds))) m p cs s in
        let l = spot_in h (suc n) q ds in
        let k = moves_on (spot h (suc n)) (size ds) (size ds') m m' mv (omega arith) in
        let z = plug_size h q q' ds ds' in
        let (p', cs', s', e, u) = moved_counterpart rest (suc (n + size (plug h q ds))) (suc (n + size (plug h q' ds'))) m m' p cs (omega arith) s in
        (p', cs', inr (inr s'), e, u)
    sub_counterpart (after p₀ cs₀ h) n m m' p cs mv (inl (em, ep, ec)) =
        let i = spot_in h (suc (n + size cs₀)) q ds in
        let e = moves_stay (spot h (suc (n + size cs₀))) (size ds) (size ds') m m' mv (omega arith) in
        (p, cs, inl (e ∙ em, ep, ec), inl refl, λ a b. Iff.rfl)
    sub_counterpart (after p₀ cs₀ h) n m m' p cs mv (inr (inl s)) =
        let l = sub_in cs₀ (suc n) m p cs s in
        let i = spot_in h (suc (n + size cs₀)) q ds in
        let e = moves_stay (spot h (suc (n + size cs₀))) (size ds) (size ds') m m' mv (omega arith) in
        (p, cs, inr (inl (rw e s)), inl refl, λ a b. Iff.rfl)
    sub_counterpart (after p₀ cs₀ h) n m m' p cs mv (inr (inr s)) =
        let (p', cs', s', e, u) = sub_counterpart h (suc (n + size cs₀)) m m' p cs mv s in
        (p', cs', inr (inr s'), e, u)

-- ── the other nodes outside keep their productions, and their children move with them ──
-- node by node, the ones are the others moved
abbrev pub AllMove : ℕ → ℕ → ℕ → List ℕ → List ℕ → Type 0
AllMove i d d' [] [] = Unit {0}
AllMove i d d' [] (m' ∷ ms') = ⊥
AllMove i d d' (m ∷ ms) [] = ⊥
AllMove i d d' (m ∷ ms) (m' ∷ ms') = Moves i d d' m m' × AllMove i d d' ms ms'

roots_before : (i d d' : ℕ) (f : Bush) (n : ℕ) → n + size f ≤ suc i → AllMove i d d' (roots f n) (roots f n)
roots_before i d d' nil n h = tt
roots_before i d d' (grow p cs rest) n h = (inl (omega arith), roots_before i d d' rest (suc (n + size cs)) (omega arith))

roots_behind : (i d d' : ℕ) (f : Bush) (n n' : ℕ) → i + d < n → n' + d ≡ n + d' → AllMove i d d' (roots f n) (roots f n')
roots_behind i d d' nil n n' h e = tt
roots_behind i d d' (grow p cs rest) n n' h e =
    (inr (omega arith), roots_behind i d d' rest (suc (n + size cs)) (suc (n' + size cs)) (omega arith) (omega arith))

module _ (q q' : ℕ) (ds ds' : Bush) where
  roots_around : (h : Hole) (n : ℕ) → AllMove (spot h n) (size ds) (size ds') (roots (plug h q ds) n) (roots (plug h q' ds') n)
  roots_around (here rest) n =
      (inl (omega arith), roots_behind n (size ds) (size ds') rest (suc (n + size ds)) (suc (n + size ds')) (omega arith) (omega arith))
  roots_around (inside p h rest) n =
      let k = spot_in h (suc n) q ds in
      let z = plug_size h q q' ds ds' in
      let first : Moves (spot h (suc n)) (size ds) (size ds') n n = inl (omega arith) in
      (first, roots_behind (spot h (suc n)) (size ds) (size ds') rest (suc (n + size (plug h q ds))) (suc (n + size (plug h q' ds'))) (omega arith) (omega arith))
  roots_around (after p cs h) n =
      let k = spot_in h (suc (n + size cs)) q ds in
      let first : Moves (spot h (suc (n + size cs))) (size ds) (size ds') n n = inl (omega arith) in
      (first, roots_around h (suc (n + size cs)))

  -- node m' of f has the production p, and its children are those of node m, cs, moved
  abbrev pub KidsMove : ℕ → Bush → ℕ → ℕ → ℕ → ℕ → Bush → Type 0
  KidsMove i f n m m' p cs = (cs' : Bush) × Sub f n m' p cs' × AllMove i (size ds) (size ds') (roots cs (suc m)) (roots cs' (suc m'))

  kept_behind : (i : ℕ) (f : Bush) (n n' m m' p : ℕ) (cs : Bush) → i + size ds < m → m' + size ds ≡ m + size ds' → n' + size ds ≡ n + size ds' → Sub f n m p cs
      → KidsMove i f n' m m' p cs
  kept_behind i f n n' m m' p cs h e k s =
      let (m'', s', e') = sub_move f n n' m p cs s in
      let em : m'' ≡ m' = omega arith in
      (cs, rw em at s', roots_behind i (size ds) (size ds') cs (suc m) (suc m') (omega arith) (omega arith))

  -- THEOREM: every node outside but the hole's own has its production also with the other tree in the hole, and there its children are the same, moved
  pub sub_kept : (h : Hole) (n m m' p : ℕ) (cs : Bush) → Moves (spot h n) (size ds) (size ds') m m' → (m ≡ spot h n → ⊥) → Sub (plug h q ds) n m p cs
      → KidsMove (spot h n) (plug h q' ds') n m m' p cs
  sub_kept (here rest) n m m' p cs mv other (inl (em, ep, ec)) = absurd (other em)
  sub_kept (here rest) n m m' p cs mv other (inr (inl s)) =
      let i = sub_in ds (suc n) m p cs s in
      let k = moves_on n (size ds) (size ds') m m' mv (omega arith) in
      absurd (omega arith)
  sub_kept (here rest) n m m' p cs mv other (inr (inr s)) =
      let i = sub_in rest (suc (n + size ds)) m p cs s in
      let k = moves_on n (size ds) (size ds') m m' mv (omega arith) in
      let (cs', s', a) = kept_behind n rest (suc (n + size ds)) (suc (n + size ds')) m m' p cs k.0 k.1 (omega arith) s in
      (cs', inr (inr s'), a)
  sub_kept (inside p₀ h rest) n m m' p cs mv other (inl (em, ep, ec)) =
      let i = spot_in h (suc n) q ds in
      let e : m' ≡ n = moves_stay (spot h (suc n)) (size ds) (size ds') m m' mv (omega arith) ∙ em in
      (plug h q' ds', inl (e, ep, refl), rw (em, e, ← ec) (roots_around h (suc n)))
  sub_kept (inside p₀ h rest) n m m' p cs mv other (inr (inl s)) =
      let (cs', s', a) = sub_kept h (suc n) m m' p cs mv other s in
      (cs', inr (inl s'), a)
  sub_kept (inside p₀ h rest) n m m' p cs mv other (inr (inr s)) =
      let i = sub_in rest (suc (n + size (plug h q ds))) m p cs s in
      let l = spot_in h (suc n) q ds in
      let k = moves_on (spot h (suc n)) (size ds) (size ds') m m' mv (omega arith) in
      let z = plug_size h q q' ds ds' in
      let (cs', s', a) = kept_behind (spot h (suc n)) rest (suc (n + size (plug h q ds))) (suc (n + size (plug h q' ds'))) m m' p cs k.0 k.1 (omega arith) s in
      (cs', inr (inr s'), a)
  sub_kept (after p₀ cs₀ h) n m m' p cs mv other (inl (em, ep, ec)) =
      let i = spot_in h (suc (n + size cs₀)) q ds in
      let e = moves_stay (spot h (suc (n + size cs₀))) (size ds) (size ds') m m' mv (omega arith) in
      let c = ap size ec in
      (cs, inl (e ∙ em, ep, ec), rw e (roots_before (spot h (suc (n + size cs₀))) (size ds) (size ds') cs (suc m) (omega arith)))
  sub_kept (after p₀ cs₀ h) n m m' p cs mv other (inr (inl s)) =
      let l = sub_in cs₀ (suc n) m p cs s in
      let i = spot_in h (suc (n + size cs₀)) q ds in
      let e = moves_stay (spot h (suc (n + size cs₀))) (size ds) (size ds') m m' mv (omega arith) in
      (cs, inr (inl (rw e s)), rw e (roots_before (spot h (suc (n + size cs₀))) (size ds) (size ds') cs (suc m) (omega arith)))
  sub_kept (after p₀ cs₀ h) n m m' p cs mv other (inr (inr s)) =
      let (cs', s', a) = sub_kept h (suc (n + size cs₀)) m m' p cs mv other s in
      (cs', inr (inr s'), a)
