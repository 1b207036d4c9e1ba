-- The bytes of an entry, as bytes of its table.
use Rattle.std.proofs.Common.{◌≡◌, ℕ, zero, suc, ◌+◌, ◌<◌, ◌≤◌, List, [], ◌∷◌, slice_get, get_or, take, drop, refl, sym, ap, ◌∙◌, arith, zero-add}
use Rattle.std.proofs.lemmas.List.{get_or_past, length-take}
use Rattle.lists.specs.Part.{part}

module _ {A : Type 0} where
  slice_get-take : (n : ℕ) (s : List A) (i : ℕ) → i < n → slice_get (take n s) i ≡ slice_get s i
  slice_get-take zero s i h = absurd (omega arith)
  slice_get-take (suc n) [] i h = refl
  slice_get-take (suc n) (x ∷ s) zero h = refl
  slice_get-take (suc n) (x ∷ s) (suc i) h = slice_get-take n s i (omega arith)

  slice_get-drop : (n : ℕ) (s : List A) (i : ℕ) → slice_get (drop n s) i ≡ slice_get s (n + i)
  slice_get-drop zero s i = ap (slice_get s) (sym (zero-add i))
  slice_get-drop (suc n) [] i = refl
  slice_get-drop (suc n) (x ∷ s) i = let e : suc n + i ≡ suc (n + i) = omega arith in rw e (slice_get-drop n s i)

  pub slice_get-part : (at n : ℕ) (s : List A) (i : ℕ) → i < n → slice_get (part at n s) i ≡ slice_get s (at + i)
  slice_get-part at n s i h = slice_get-take n (drop at s) i h ∙ slice_get-drop at s i

-- a part has no element from its n-th on
pub get_or-part_past : (at n : ℕ) (s : List ℕ) (i d : ℕ) → n ≤ i → get_or (part at n s) i d ≡ d
get_or-part_past at n s i d h = get_or_past (part at n s) i d (omega (arith, length-take n (drop at s)))
