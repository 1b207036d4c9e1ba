-- A search among places finds what is there, and nothing else.
use mathlib.Core.Path.{◌≡◌, refl, sym, ap, ◌∙◌, subst}
use mathlib.Core.Bool.{true, false}
use mathlib.Core.List.{List, Memᴰ}
use Prim.Native.Nat.{ℕ, ◌+◌, ◌≤◌, ◌<◌}
use native.Mathlib.Omega.{arith}
use lib.ListN.{length, get_or}
use Rattle.std.specs.Prelude.{Option, Some, None}
use Rattle.std.specs.Option.{is_some}
use Rattle.lists.specs.Part.{part}
use Rattle.lists.specs.Sought.{Least}
use Rattle.lists.proofs.Parts.{length_part, get_d_part}
use Rattle.lists.proofs.Places.{member_at, place_of}
use Rattle.members.specs.Sets.{Search}

-- what is found is a member
pub search_has : (s : List ℕ) (base n x : ℕ) (r : Option ℕ) → base + n ≤ length s → Search s base n x r → is_some r ≡ true → Memᴰ x (part base n s)
search_has s base n x None f h e = absurd cc
search_has s base n x (Some i) f h e = subst (λ y. Memᴰ y (part base n s)) (get_d_part base n s i 0 h.below ∙ h.has) (member_at (part base n s) i (omega (arith, length_part base n s f, h.below)))

-- and what is a member is found
pub search_finds : (s : List ℕ) (base n x : ℕ) (r : Option ℕ) → base + n ≤ length s → Search s base n x r → Memᴰ x (part base n s)
    → (i : ℕ) × (r ≡ Some i) × Least (λ j. get_or s (base + j) 0 ≡ x) n i
search_finds s base n x (Some i) f h m = (i, refl, h)
search_finds s base n x None f h m =
    let (j, l, e) = place_of (part base n s) m in
    let b : j < n = omega (arith, length_part base n s f) in
    absurd (h j b (sym (get_d_part base n s j 0 b) ∙ e))

pub search_none : (s : List ℕ) (base n x : ℕ) (r : Option ℕ) → base + n ≤ length s → Search s base n x r → is_some r ≡ false → Memᴰ x (part base n s) → ⊥
search_none s base n x r f h e m = let (i, q, l) = search_finds s base n x r f h m in let z : true ≡ false = ap is_some (sym q) ∙ e in cc
