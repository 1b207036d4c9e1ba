-- A book that is laid out: where its kind entries stand, and that each production entry ends before the trailer.
use mathlib.Core.Path.{◌≡◌, ap, sym, subst₂}
use mathlib.Core.Bool.{Bool}
use mathlib.Core.Logic.{inl, inr}
use mathlib.Core.List.{List}
use Prim.Native.Nat.{ℕ, zero, suc, ◌+◌, ◌-◌, ◌*◌, ◌≤◌, ◌<◌}
use native.Mathlib.Decide.{dec_le, dec_lt}
use native.Mathlib.Nat.{add-zero}
use native.Mathlib.Omega.{arith}
use lib.ListN.{length, get_or}
use borrow.Author.Tests.{le-ltb}
use Rattle.chains.specs.Limits.{max_kinds, max_prods}
use Rattle.book.specs.Format.{trailer_bytes, trailer, field, kinds, prods, start, back_to_kinds, back_to_prods, kind_at, Bit, next_at, entry, grammar, Walks, Laid}
use Rattle.book.specs.Reading.{told, settings_of, mask_of, following}
use Rattle.bookcheck.specs.Refusals.{OutOfRange}
use Rattle.bookcheck.specs.Search.{Tells}
use Rattle.book.proofs.Places.{following_is, entry_first}

pub told_is : (b : List ℕ) (i : ℕ) → trailer_bytes ≤ length b → told b i ≡ field b i
told_is b i h = rw (le-ltb (length b) trailer_bytes h)

module _ {b : List ℕ} (l : Laid b) where
  pub kind_front : (k : ℕ) → kind_at b k ≡ 2 * k
  kind_front k = omega (arith, l.from_front)

  pub settings_is : (k : ℕ) → settings_of b k ≡ (grammar b).settings k
  settings_is k = ap (λ i. get_or b i 0) (sym (kind_front k))

  pub mask_is : (k : ℕ) → mask_of b k ≡ get_or b (kind_at b k + 1) 0
  mask_is k = ap (λ i. get_or b (i + 1) 0) (sym (kind_front k))

  pub inherits_is : (k i : ℕ) → Bit (mask_of b k) i ≡ (grammar b).inherits k i
  inherits_is k i = ap (λ m. Bit m i) (mask_is k)

  pub entry_front : entry b 0 ≡ 2 * kinds b
  entry_front = omega (arith, entry_first b, l.then_prods)

walk_inside : (b : List ℕ) (n p e : ℕ) → Walks b n (entry b p) e → (q : ℕ) → q < n → next_at b (entry b (p + q)) ≤ trailer b
unfolding entry
walk_inside b zero p e w q h = absurd (omega arith)
walk_inside b (suc n) p e w zero h = rw (add-zero p) w.0
walk_inside b (suc n) p e w (suc q) h = let k : p + suc q ≡ suc p + q = omega arith in rw k (walk_inside b n (suc p) e w.1 q (omega arith))

pub inside : {b : List ℕ} → Laid b → (p : ℕ) → p < prods b → next_at b (entry b p) ≤ trailer b
unfolding entry
inside {b} l p h = let k : 0 + p ≡ p = omega arith in rw k at (walk_inside b (prods b) 0 (trailer b) l.to_trailer p h)

-- what is left when none of the five is out of range
pub range_kept : (b : List ℕ) → 1 ≤ kinds b → kinds b ≤ max_kinds → 1 ≤ prods b → prods b ≤ max_prods → start b < kinds b → OutOfRange b → ⊥
range_kept b n n' m m' s (inl h) = omega arith
range_kept b n n' m m' s (inr (inl h)) = omega arith
range_kept b n n' m m' s (inr (inr (inl h))) = omega arith
range_kept b n n' m m' s (inr (inr (inr (inl h)))) = omega arith
range_kept b n n' m m' s (inr (inr (inr (inr h)))) = omega arith

module _ (b : List ℕ) (r : OutOfRange b → ⊥) where
  pub some_kinds : 1 ≤ kinds b
  some_kinds = elim (dec_lt (kinds b) 1) [ yes h ↦ absurd (r (inl h)) | no h ↦ omega arith ]

  pub few_kinds : kinds b ≤ max_kinds
  few_kinds = elim (dec_lt max_kinds (kinds b)) [ yes h ↦ absurd (r (inr (inl h))) | no h ↦ omega arith ]

  pub some_prods : 1 ≤ prods b
  some_prods = elim (dec_lt (prods b) 1) [ yes h ↦ absurd (r (inr (inr (inl h)))) | no h ↦ omega arith ]

  pub few_prods : prods b ≤ max_prods
  few_prods = elim (dec_lt max_prods (prods b)) [ yes h ↦ absurd (r (inr (inr (inr (inl h))))) | no h ↦ omega arith ]

  pub start_in : start b < kinds b
  start_in = elim (dec_le (kinds b) (start b)) [ yes h ↦ absurd (r (inr (inr (inr (inr h))))) | no h ↦ omega arith ]

-- the walk: what is left to walk from here ends at the trailer exactly when the whole does
pub record Treading (b : List ℕ) (n at rest here : ℕ) : Type 0 where
  pub near : here ≤ trailer b
  pub onward : Walks b n at (trailer b) → Walks b rest here (trailer b)
  pub whole : Walks b rest here (trailer b) → Walks b n at (trailer b)

pub tread_begins : {b : List ℕ} {n at : ℕ} → at ≤ trailer b → Treading b n at n at
tread_begins h = record { near = h; onward = λ w. w; whole = λ w. w }

walks_more : (b : List ℕ) (rest here e : ℕ) → 0 < rest
    → (Walks b rest here e → (next_at b here ≤ trailer b) × Walks b (rest - 1) (next_at b here) e)
    × ((next_at b here ≤ trailer b) × Walks b (rest - 1) (next_at b here) e → Walks b rest here e)
walks_more b zero here e h = absurd (omega arith)
walks_more b (suc rest) here e h = let k : suc rest - 1 ≡ rest = omega arith in rw k (λ w. w, λ w. w)

module _ {b : List ℕ} {n at rest here next : ℕ} (t : Treading b n at rest here) (l : 0 < rest) (f : next ≡ following b here) (whole : trailer_bytes ≤ length b) where
  e : next ≡ next_at b here
  e = following_is b here f (omega (arith, t.near))

  pub tread_on : next ≤ trailer b → Treading b n at (rest - 1) next
  tread_on h =
      let k : next_at b here ≤ trailer b = omega (arith, e) in
      rw e (record {
        near = k;
        onward = λ w. ((walks_more b rest here (trailer b) l).0 (t.onward w)).1;
        whole = λ w. t.whole ((walks_more b rest here (trailer b) l).1 (k, w));
      })

  pub tread_past : trailer b < next → Walks b n at (trailer b) → ⊥
  tread_past h w = let k = ((walks_more b rest here (trailer b) l).0 (t.onward w)).0 in omega (arith, e)

module _ {b : List ℕ} {n at rest here : ℕ} (t : Treading b n at rest here) (z : rest ≤ 0) where
  rest_none : rest ≡ 0
  rest_none = omega arith

  pub tread_ends : here ≡ trailer b → Walks b n at (trailer b)
  tread_ends e = t.whole (rw rest_none e)

  pub tread_misses : (here ≡ trailer b → ⊥) → Walks b n at (trailer b) → ⊥
  tread_misses h w = h (rw rest_none at (t.onward w))

-- with both distances right, the walk decides
pub laid_by_walk : (b : List ℕ) (n at : ℕ) {r : Bool} → Tells (Walks b n at (trailer b)) r → n ≡ prods b → at ≡ trailer b - back_to_prods b
    → trailer_bytes ≤ length b → back_to_kinds b ≡ trailer b → back_to_prods b + 2 * kinds b ≡ trailer b → Tells (Laid b) r
laid_by_walk b n at tells en ea w f t = record {
  holds = λ e. record { whole = w; from_front = f; then_prods = t; to_trailer = subst₂ (λ i j. Walks b i j (trailer b)) en ea (tells.holds e) };
  fails = λ e l. tells.fails e (subst₂ (λ i j. Walks b i j (trailer b)) (sym en) (sym ea) l.to_trailer);
}
