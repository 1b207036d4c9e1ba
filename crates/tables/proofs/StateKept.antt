-- Labels that stand among gaps: the list of those that stand, where each is in it, and that labels by first appearance are pinned by which of
-- them are equal.
use mathlib.Core.Path.{◌≡◌, refl, sym, ap, ◌∙◌}
use mathlib.Core.Logic.{◌↔◌}
use mathlib.Core.Bool.{Bool, true, false}
use mathlib.Core.List.{List, [], ◌∷◌}
use Prim.Native.Nat.{ℕ, zero, suc, ◌<◌}
use native.Mathlib.Omega.{arith}
use native.Mathlib.Decide.{ℕ_discrete}
use borrow.Author.Tests.{eqb-false, eq-eqb, ne_eqb}
use lib.Dec.{eqb}
use lib.ListN.{length, get_or}
use lib.Seq.{ext_get_or}
use Rattle.lists.specs.Pick.{pick}
use Rattle.chains.specs.Grouping.{Proper}
use Rattle.chains.proofs.Appearance.{proper_once}
use Rattle.ranks.specs.Entries.{none}
use Rattle.tables.specs.Entries.{kept}

-- a label stands at o
abbrev pub Stands : List ℕ → ℕ → Type 0
Stands l o = get_or l o none ≡ none → ⊥

-- how many labels stand before the place o
unfoldable pub before : List ℕ → ℕ → ℕ
before [] o = 0
before (x ∷ l) zero = 0
before (x ∷ l) (suc o) = pick (eqb x none) (before l o) (suc (before l o))

-- the label at o is the one behind those before it
pub kept_at : (l : List ℕ) (o : ℕ) → Stands l o → (before l o < length (kept l)) × (get_or (kept l) (before l o) 0 ≡ get_or l o none)
unfolding kept before
kept_at [] o h = absurd (h refl)
kept_at (x ∷ l) zero h = rw (ne_eqb x none h) (omega arith, refl)
kept_at (x ∷ l) (suc o) h = go (eqb x none) (kept_at l o h)
  where
    go : (b : Bool) → (before l o < length (kept l)) × (get_or (kept l) (before l o) 0 ≡ get_or l o none)
        → (pick b (before l o) (suc (before l o)) < length (pick b (kept l) (x ∷ kept l)))
        × (get_or (pick b (kept l) (x ∷ kept l)) (pick b (before l o) (suc (before l o))) 0 ≡ get_or l o none)
    go true r = r
    go false r = (omega (arith, r.0), r.1)

-- and each of those that stand has its place
pub kept_from : (l : List ℕ) (i : ℕ) → i < length (kept l) → (o : ℕ) × (o < length l) × Stands l o × (before l o ≡ i)
unfolding kept before
kept_from [] i h = absurd (omega arith)
kept_from (x ∷ l) i h = go (eqb x none) refl i h (λ i k. kept_from l i k)
  where
    go : (b : Bool) → eqb x none ≡ b → (i : ℕ) → i < length (pick b (kept l) (x ∷ kept l))
        → ((i : ℕ) → i < length (kept l) → (o : ℕ) × (o < length l) × Stands l o × (before l o ≡ i))
        → (o : ℕ) × (o < length (x ∷ l)) × Stands (x ∷ l) o × (before (x ∷ l) o ≡ i)
    go true e i k ih = let (o, u, v, w) = ih i k in (suc o, omega arith, v, rw e w)
    go false e zero k ih = (0, omega arith, eqb-false x none e, refl)
    go false e (suc i) k ih = let (o, u, v, w) = ih i (omega arith) in (suc o, omega arith, v, rw e (ap suc w))

-- ---- labels with the same gaps
pub data Fit : List ℕ → List ℕ → Type 0 where
  end : Fit [] []
  gap : {x y : ℕ} {l m : List ℕ} → x ≡ none → y ≡ none → Fit l m → Fit (x ∷ l) (y ∷ m)
  both : {x y : ℕ} {l m : List ℕ} → (x ≡ none → ⊥) → (y ≡ none → ⊥) → Fit l m → Fit (x ∷ l) (y ∷ m)

pub fit : (l m : List ℕ) → length l ≡ length m → ((o : ℕ) → o < length l → (get_or l o none ≡ none) ↔ (get_or m o none ≡ none)) → Fit l m
fit [] [] e h = end
fit [] (y ∷ m) e h = absurd (omega arith)
fit (x ∷ l) [] e h = absurd (omega arith)
fit (x ∷ l) (y ∷ m) e h = go (ℕ_discrete x none) (h 0 (omega arith)) (fit l m (omega arith) (λ o k. h (suc o) (omega arith)))
  where
    go : Dec (x ≡ none) → (x ≡ none) ↔ (y ≡ none) → Fit l m → Fit (x ∷ l) (y ∷ m)
    go (yes p) t f = gap p (t.0 p) f
    go (no p) t f = both p (λ q. p (t.1 q)) f

pub fit_before : {l m : List ℕ} → Fit l m → (o : ℕ) → before l o ≡ before m o
unfolding before
fit_before end o = refl
fit_before (gap p q f) zero = refl
fit_before (gap {x = x} {y = y} p q f) (suc o) = rw (eq-eqb x none p, eq-eqb y none q) (fit_before f o)
fit_before (both p q f) zero = refl
fit_before (both {x = x} {y = y} p q f) (suc o) = rw (ne_eqb x none p, ne_eqb y none q) (ap suc (fit_before f o))

pub fit_kept : {l m : List ℕ} → Fit l m → length (kept l) ≡ length (kept m)
unfolding kept
fit_kept end = refl
fit_kept (gap {x = x} {y = y} p q f) = rw (eq-eqb x none p, eq-eqb y none q) (fit_kept f)
fit_kept (both {x = x} {y = y} p q f) = rw (ne_eqb x none p, ne_eqb y none q) (ap suc (fit_kept f))

pub fit_long : {l m : List ℕ} → Fit l m → length l ≡ length m
fit_long end = refl
fit_long (gap p q f) = ap suc (fit_long f)
fit_long (both p q f) = ap suc (fit_long f)

pub fit_gap : {l m : List ℕ} → Fit l m → (o : ℕ) → (get_or l o none ≡ none) ↔ (get_or m o none ≡ none)
fit_gap end o = (λ e. e, λ e. e)
fit_gap (gap p q f) zero = (λ e. q, λ e. p)
fit_gap (gap p q f) (suc o) = fit_gap f o
fit_gap (both p q f) zero = (λ e. absurd (p e), λ e. absurd (q e))
fit_gap (both p q f) (suc o) = fit_gap f o

-- ---- pinned
-- THEOREM: two lists of labels by first appearance, with the same gaps and the same equalities, are one list
pub labels_once : (l m : List ℕ) → Fit l m → Proper 0 (kept l) → Proper 0 (kept m)
    → ((o o' : ℕ) → Stands l o → Stands l o' → (get_or l o none ≡ get_or l o' none) ↔ (get_or m o none ≡ get_or m o' none)) → l ≡ m
labels_once l m f a b same = ext_get_or none l m (fit_long f) (λ o h. at o (ℕ_discrete (get_or l o none) none))
  where
    standing : (o : ℕ) → Stands l o → Stands m o
    standing o h e = h ((fit_gap f o).1 e)

    in_l : (i : ℕ) (h : i < length (kept l)) → get_or (kept l) i 0 ≡ get_or l (kept_from l i h).0 none
    in_l i h = let (o, u, v, w) = kept_from l i h in ap (λ (k : ℕ). get_or (kept l) k 0) (sym w) ∙ (kept_at l o v).1

    in_m : (i : ℕ) (h : i < length (kept l)) → get_or (kept m) i 0 ≡ get_or m (kept_from l i h).0 none
    in_m i h = let (o, u, v, w) = kept_from l i h in ap (λ (k : ℕ). get_or (kept m) k 0) (sym w ∙ fit_before f o) ∙ (kept_at m o (standing o v)).1

    equal : (i j : ℕ) → i < length (kept l) → j < length (kept l) → (get_or (kept l) i 0 ≡ get_or (kept l) j 0) ↔ (get_or (kept m) i 0 ≡ get_or (kept m) j 0)
    equal i j hi hj =
        let t = same (kept_from l i hi).0 (kept_from l j hj).0 (kept_from l i hi).2 (kept_from l j hj).2 in
        (λ e. in_m i hi ∙ t.0 (sym (in_l i hi) ∙ e ∙ in_l j hj) ∙ sym (in_m j hj), λ e. in_l i hi ∙ t.1 (sym (in_m i hi) ∙ e ∙ in_m j hj) ∙ sym (in_l j hj))

    one : kept l ≡ kept m
    one = proper_once (kept l) (kept m) a b (fit_kept f) equal

    at : (o : ℕ) → Dec (get_or l o none ≡ none) → get_or l o none ≡ get_or m o none
    at o (yes e) = e ∙ sym ((fit_gap f o).0 e)
    at o (no h) =
        sym (kept_at l o h).1 ∙ ap (λ (u : List ℕ). get_or u (before l o) 0) one ∙ ap (λ (k : ℕ). get_or (kept m) k 0) (fit_before f o) ∙ (kept_at m o (standing o h)).1
