-- Closures, and the gluing lemma: where two sides meet at a border only, chains between points of one side need of the other side nothing
-- but its chains from border to border.
use mathlib.Core.Path.{◌≡◌, refl, sym, ◌∙◌}
use mathlib.Core.Logic.{◌⊎◌, inl, inr}
use Rattle.chains.specs.Chain.{Eqv, done, fwd, bwd}

module _ {X : Type 0} {R : X → X → Type 0} where
  pub trans : {x y z : X} → Eqv R x y → Eqv R y z → Eqv R x z
  trans c done = c
  trans c (fwd d r) = fwd (trans c d) r
  trans c (bwd d r) = bwd (trans c d) r

  pub back : {x y : X} → Eqv R x y → Eqv R y x
  back done = done
  back (fwd d r) = trans (bwd done r) (back d)
  back (bwd d r) = trans (fwd done r) (back d)

-- a map that takes edges to chains takes chains to chains
pub along : {X Y : Type 0} {R : X → X → Type 0} {S : Y → Y → Type 0} (f : X → Y) → ((x y : X) → R x y → Eqv S (f x) (f y))
    → {x y : X} → Eqv R x y → Eqv S (f x) (f y)
along f h done = done
along f h (fwd {y = y} {z = z} d r) = trans (along f h d) (h y z r)
along f h (bwd {y = y} {z = z} d r) = trans (along f h d) (back (h z y r))

-- edges that are chains of S make chains of S
pub bind : {X : Type 0} {R S : X → X → Type 0} → ((x y : X) → R x y → Eqv S x y) → {x y : X} → Eqv R x y → Eqv S x y
bind h c = along (λ x. x) h c

-- more edges never part what fewer chain
pub more : {X : Type 0} {R S : X → X → Type 0} → ((x y : X) → R x y → S x y) → {x y : X} → Eqv R x y → Eqv S x y
more h c = bind (λ x y r. fwd done (h x y r)) c

pub no_edge : {X : Type 0} {R : X → X → Type 0} → ((x y : X) → R x y → ⊥) → {x y : X} → Eqv R x y → x ≡ y
no_edge h done = refl
no_edge h (fwd {y = y} {z = z} d r) = absurd (h y z r)
no_edge h (bwd {y = y} {z = z} d r) = absurd (h z y r)

-- where every edge that goes anywhere has ends with P, so has every chain
pub real_ends : {X : Type 0} {R : X → X → Type 0} (P : X → Type 0) → ((x y : X) → R x y → (x ≡ y) ⊎ (P x × P y))
    → {x y : X} → Eqv R x y → (x ≡ y) ⊎ (P x × P y)
real_ends {X = X} {R = R} P h c = go c
  where
    onward : {x y z : X} → (x ≡ y) ⊎ (P x × P y) → (y ≡ z) ⊎ (P y × P z) → (x ≡ z) ⊎ (P x × P z)
    onward (inl e) (inl e') = inl (e ∙ e')
    onward (inl e) (inr q) = inr (rw e q)
    onward (inr p) (inl e) = inr (rw e at p)
    onward (inr p) (inr q) = inr (p.0, q.1)

    turned : {x y : X} → (x ≡ y) ⊎ (P x × P y) → (y ≡ x) ⊎ (P y × P x)
    turned (inl e) = inl (sym e)
    turned (inr p) = inr (p.1, p.0)

    go : {x y : X} → Eqv R x y → (x ≡ y) ⊎ (P x × P y)
    go done = inl refl
    go (fwd {y = y} {z = z} d r) = onward (go d) (h y z r)
    go (bwd {y = y} {z = z} d r) = onward (go d) (turned (h z y r))

-- E's edges, and F's chains from border to border
abbrev pub Glued : {X : Type 0} (E F : X → X → Type 0) (B : X → Type 0) → X → X → Type 0
Glued E F B x y = E x y ⊎ (B x × B y × Eqv F x y)

-- what a chain from the side S has come to: a point of that side, or one of the side U, over the border
abbrev pub Reach : {X : Type 0} (E F : X → X → Type 0) (S U B : X → Type 0) → X → X → Type 0
Reach {X = X} E F S U B x y = (S y × Eqv (Glued E F B) x y) ⊎ (U y × ((b : X) × B b × Eqv (Glued E F B) x b × Eqv F b y))

-- R's edges are E's, which stay on the side S, and F's, which stay on the side U; B is where the sides meet
module _ {X : Type 0} (R E F : X → X → Type 0) (S U B : X → Type 0)
    (split : (x y : X) → R x y → E x y ⊎ F x y)
    (on_s : (x y : X) → E x y → S x × S y)
    (on_u : (x y : X) → F x y → U x × U y)
    (meet : (x : X) → S x → U x → B x) where
  -- what is reached, if it is on the side S, is reached on that side
  home : {x y : X} → S y → Reach E F S U B x y → Eqv (Glued E F B) x y
  home sy (inl g) = g.1
  home {y = y} sy (inr u) = fwd u.1.2 (inr (u.1.1, meet y sy u.0, u.1.3))

  -- what is reached, if it is on the side U, is reached over the border
  over : {x y : X} → U y → Reach E F S U B x y → (b : X) × B b × Eqv (Glued E F B) x b × Eqv F b y
  over {y = y} uy (inl g) = (y, meet y g.0 uy, g.1, done)
  over uy (inr u) = u.1

  by_e : {x y z : X} → Reach E F S U B x y → S y → S z → Eqv (Glued E F B) y z → Reach E F S U B x z
  by_e r sy sz e = inl (sz, trans (home sy r) e)

  by_f : {x y z : X} → Reach E F S U B x y → U y → U z → Eqv F y z → Reach E F S U B x z
  by_f r uy uz e = let (b, hb, g, c) = over uy r in inr (uz, (b, hb, g, trans c e))

  ahead : {x y z : X} → Reach E F S U B x y → E y z ⊎ F y z → Reach E F S U B x z
  ahead {y = y} {z = z} t (inl e) = by_e t (on_s y z e).0 (on_s y z e).1 (fwd done (inl e))
  ahead {y = y} {z = z} t (inr f) = by_f t (on_u y z f).0 (on_u y z f).1 (fwd done f)

  behind : {x y z : X} → Reach E F S U B x y → E z y ⊎ F z y → Reach E F S U B x z
  behind {y = y} {z = z} t (inl e) = by_e t (on_s z y e).1 (on_s z y e).0 (bwd done (inl e))
  behind {y = y} {z = z} t (inr f) = by_f t (on_u z y f).1 (on_u z y f).0 (bwd done f)

  pub reach : {x y : X} → S x → Eqv R x y → Reach E F S U B x y
  reach sx done = inl (sx, done)
  reach sx (fwd {y = y} {z = z} d r) = ahead (reach sx d) (split y z r)
  reach sx (bwd {y = y} {z = z} d r) = behind (reach sx d) (split z y r)

  -- between two points of the side S, R's chains are those of E and of F's chains from border to border
  pub glue : {x y : X} → S x → S y → Eqv R x y → Eqv (Glued E F B) x y
  glue sx sy c = home sy (reach sx c)

  -- a chain from the side S to the side U passes the border
  pub pass : {x y : X} → S x → U y → Eqv R x y → (b : X) × B b × Eqv (Glued E F B) x b × Eqv F b y
  pass sx uy c = over uy (reach sx c)

-- the converse of `glue`: it needs no side
pub unglue : {X : Type 0} {R E F : X → X → Type 0} (B : X → Type 0) → ((x y : X) → E x y → Eqv R x y) → ((x y : X) → F x y → Eqv R x y)
    → {x y : X} → Eqv (Glued E F B) x y → Eqv R x y
unglue {X = X} {R = R} {E = E} {F = F} B e f c = bind go c
  where
    go : (x y : X) → Glued E F B x y → Eqv R x y
    go x y (inl h) = e x y h
    go x y (inr h) = bind f h.2

-- two sides that do not meet: a chain from S stays on S, and is one of E
module _ {X : Type 0} (R E F : X → X → Type 0) (S U : X → Type 0)
    (split : (x y : X) → R x y → E x y ⊎ F x y)
    (on_s : (x y : X) → E x y → S x × S y)
    (on_u : (x y : X) → F x y → U x × U y)
    (apart : (x : X) → S x → U x → ⊥) where
  no_crossing : (x y : X) → Glued E F (λ _. ⊥) x y → Eqv E x y
  no_crossing x y (inl e) = fwd done e
  no_crossing x y (inr g) = absurd g.0

  stayed : {x y : X} → Reach E F S U (λ _. ⊥) x y → S y × Eqv E x y
  stayed (inl g) = (g.0, bind no_crossing g.1)
  stayed (inr u) = absurd u.1.1

  pub stay : {x y : X} → S x → Eqv R x y → S y × Eqv E x y
  stay sx c = stayed (reach R E F S U (λ _. ⊥) split on_s on_u apart sx c)
