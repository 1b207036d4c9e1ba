-- A place behind a run that is laid over a list, written.
use mathlib.Core.Path.{◌≡◌, sym, ◌∙◌}
use mathlib.Core.List.{List, [], ◌∷◌, ◌++◌, append_assoc}
use Prim.Native.Nat.{ℕ, suc, ◌+◌, ◌<◌}
use native.Mathlib.Omega.{arith}
use lib.ListN.{length, get_or, set, take, drop, length-append}
use lib.Seq.{drop-cons, set_at, length-take-le}
use Rattle.lists.specs.Part.{place}

module _ (s₀ : List ℕ) (base : ℕ) (f : List ℕ) (h : base + length f < length s₀) where
  head_long : length (take base s₀ ++ f) ≡ base + length f
  head_long = rw (length-append, length-take-le base s₀ (omega arith))

  opened : place base f s₀ ≡ (take base s₀ ++ f) ++ get_or s₀ (base + length f) 0 ∷ drop (suc (base + length f)) s₀
  opened = rw (drop-cons s₀ (base + length f) 0 h)

  shut : (v : ℕ) → place base (f ++ v ∷ []) s₀ ≡ (take base s₀ ++ f) ++ v ∷ drop (suc (base + length f)) s₀
  shut v =
      let e : base + length (f ++ v ∷ []) ≡ suc (base + length f) = omega (arith, length-append f (v ∷ [])) in
      rw e (simp append_assoc)

  pub placed : (v : ℕ) → set (place base f s₀) (base + length f) v ≡ place base (f ++ v ∷ []) s₀
  placed v = rw opened (set_at (take base s₀ ++ f) _ _ v _ head_long ∙ sym (shut v))
