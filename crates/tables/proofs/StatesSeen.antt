-- What stands among the states seen keeps having what was shown of it, as states are put there and as more comes to have it.
use mathlib.Core.Path.{◌≡◌, refl, sym, ap, ◌∙◌, subst}
use mathlib.Core.Logic.{◌⊎◌, ⊎_elim}
use mathlib.Core.Bool.{Bool, true}
use mathlib.Core.List.{List, []}
use Prim.Native.Nat.{ℕ, ◌<◌}
use native.Mathlib.Omega.{arith}
use native.Mathlib.Decide.{ℕ_discrete}
use lib.Dec.{eqb}
use lib.ListN.{get_or, set, take, length-take, length-set}
use lib.Pointwise.{pointwise}
use lib.Seq.{get_or-set_same, get_or-set_other}
use Rattle.std.specs.List.{IsAnyAnswer}
use Rattle.std.proofs.lemmas.Bool.Decides.{Decides-eqb}
use Rattle.std.proofs.lemmas.List.{get_or-take, get_or_default}
use Rattle.std.proofs.lemmas.List.Elements.{contains_decides}
use Rattle.std.proofs.lemmas.Slice.Eq.{slice_eq-Decides}
use Rattle.tables.specs.Seen.{levels, Found, level, Stored}
use Rattle.tables.specs.declared.seen.Level.{Level}

-- ---- one level
-- a state found among the first n
pub known_found : (l : List (List ℕ)) (n : ℕ) (s : List ℕ) (r : Bool) → IsAnyAnswer (λ y t. pointwise eqb y s ≡ t) (take n l) r → r ≡ true
    → (i : ℕ) × (i < n) × (get_or l i [] ≡ s)
known_found l n s r a e =
    let (i, b, h) = (contains_decides (pointwise eqb) (λ x y. slice_eq-Decides Decides-eqb x y (pointwise eqb x y) refl) (take n l) s r a).0 e in
    let k : i < n = omega (arith, length-take n l) in
    (i, k, sym (get_or-take n l i [] k) ∙ h [])

-- ---- all levels
-- what stands there has W, of whatever state it is
pub found_has : {W : ℕ → List ℕ → Type 0} {l : List Level} {j : ℕ} {s : List ℕ} → Stored W l → j < levels → (v : Level) → Found (get_or l j v) s → W j s
found_has {l = l} {j} {s} h b v f = h.each j s b (rw (get_or_default l j (record { counter = 0; states = [] }) v (omega (arith, h.long))) f)

-- where all that has W has V
pub stored_map : {W W' : ℕ → List ℕ → Type 0} {l : List Level} → ((j : ℕ) (s : List ℕ) → W j s → W' j s) → Stored W l → Stored W' l
stored_map g h = record { long = h.long; each = λ j s b f. g j s (h.each j s b f) }

-- THEOREM: a state with W put among them
pub remember_stored : {W : ℕ → List ℕ → Type 0} {l : List Level} → Stored W l → (j : ℕ) → j < levels → (s : List ℕ) → W j s → (u v : Level)
    → ((t : List ℕ) → Found v t → (t ≡ s) ⊎ Found (get_or l j u) t) → Stored W (set l j v)
remember_stored {W} {l} h j b s has u v only = record { long = length-set l j v ∙ h.long; each = λ k t c f. go k t c f (ℕ_discrete k j) }
  where
    go : (k : ℕ) (t : List ℕ) → k < levels → Found (level (set l j v) k) t → Dec (k ≡ j) → W k t
    go k t c f (yes e) =
        let q : level (set l j v) k ≡ v = ap (λ (i : ℕ). level (set l j v) i) e ∙ get_or-set_same l j v _ (omega (arith, h.long)) in
        subst (λ i. W i t) (sym e) (⊎_elim (λ p. subst (W j) (sym p) has) (λ g. found_has h b u g) (only t (rw q at f)))
    go k t c f (no n) =
        let q : level (set l j v) k ≡ level l k = get_or-set_other l j k v _ n in
        h.each k t c (rw q at f)
