-- Where each entry stands, and the walk that writes it down.
use mathlib.Core.Path.{◌≡◌, refl, ap, sym, ◌∙◌}
use mathlib.Core.List.{List, ◌++◌}
use Prim.Native.Nat.{ℕ, ◌+◌, ◌-◌, ◌*◌, ◌≤◌, ◌<◌, min}
use native.Mathlib.Decide.{dec_lt}
use native.Mathlib.Numerals.{add-one}
use native.Mathlib.Omega.{arith}
use lib.Dec.{ltb}
use lib.ListN.{length, get_or, take, drop, length-append, length-drop, get_or-append, set, length-set, replicate, length-replicate, get_or-replicate}
use lib.Seq.{length-take-le, get_or-drop, get_or-append_right, get_or-set_same, get_or-set_other, ext_get_or}
use borrow.Author.Tests.{lt-ltb, le-ltb}
use Rattle.lists.specs.Pick.{pick}
use Rattle.chains.specs.Limits.{max_prods}
use Rattle.book.specs.Format.{trailer_bytes, trailer, back_to_prods, next_at, entry_most, entry}
use Rattle.book.specs.Reading.{told, following, Index}

pub entry_first : (b : List ℕ) → entry b 0 ≡ trailer b - back_to_prods b
unfolding entry
entry_first b = refl

pub entry_next : (b : List ℕ) (p : ℕ) → entry b (p + 1) ≡ next_at b (entry b p)
unfolding entry
entry_next b p = rw add-one

-- the first entry by what the trailer tells; without a trailer there is nothing to point back from
pub first_told : (b : List ℕ) → entry b 0 ≡ trailer b - told b 5
first_told b = go (dec_lt (length b) trailer_bytes)
  where
    go : Dec (length b < trailer_bytes) → entry b 0 ≡ trailer b - told b 5
    go (yes h) = omega (arith, entry_first b)
    go (no h) = rw (le-ltb (length b) trailer_bytes (omega arith)) (entry_first b)

-- inside the book the entry that follows is the next one
pub following_is : (b : List ℕ) (at : ℕ) {r : ℕ} → r ≡ following b at → at < length b → r ≡ next_at b at
following_is b at e h = rw (lt-ltb at (length b) h) at e

-- of the n places, p are written down, and the next entry stands at `at`
pub record Walking (b : List ℕ) (n : ℕ) (places : List ℕ) (at p : ℕ) : Type 0 where
  pub few : n ≡ min (told b 2) max_prods
  pub long : length places ≡ n
  pub here : at ≡ entry b p
  pub near : at ≤ length b + entry_most * p
  pub written : (q : ℕ) → q < p → get_or places q 0 ≡ entry b q

-- blank places
abbrev blank : List ℕ
blank = replicate max_prods 0

blank_long : length blank ≡ max_prods
blank_long = length-replicate {A = ℕ} max_prods 0

pub walk_begins : (b : List ℕ) (n at : ℕ) → n ≡ min (told b 2) max_prods → at ≡ entry b 0 → Walking b n (take n blank) at 0
walk_begins b n at f h = record {
  few = f;
  long = length-take-le n blank (omega (arith, blank_long));
  here = h;
  near = omega (arith, entry_first b);
  written = λ q l. absurd (omega arith);
}

pub walk_goes : {b places : List ℕ} {n at p : ℕ} (next : ℕ) → Walking b n places at p → p < n → next ≡ next_at b at → next ≤ at + entry_most
    → Walking b n (set places p at) next (p + 1)
walk_goes {b} {places} {n} {at} {p} next w l e near = record {
  few = w.few;
  long = length-set places p at ∙ w.long;
  here = e ∙ ap (next_at b) w.here ∙ sym (entry_next b p);
  near = omega arith;
  written = λ q h. old_or_new q h (dec_lt q p);
}
  where
    old_or_new : (q : ℕ) → q < p + 1 → Dec (q < p) → get_or (set places p at) q 0 ≡ entry b q
    old_or_new q h (yes k) = get_or-set_other places p q at 0 (λ s. omega arith) ∙ w.written q k
    old_or_new q h (no k) =
        let s : q ≡ p = omega arith in
        rw s (get_or-set_same places p at 0 (omega (arith, w.long)) ∙ w.here)

-- behind the n places stand blank ones
pub walk_ends : {b places : List ℕ} {n at p : ℕ} → Walking b n places at p → n ≤ p → Index b (places ++ drop n blank)
walk_ends {b} {places} {n} {at} {p} w l = record {
  long = rw (length-append, length-drop, w.long, blank_long) (omega (arith, w.few));
  each = λ q h. told_or_not q h (dec_lt q n);
}
  where
    told_or_not : (q : ℕ) → q < max_prods → Dec (q < n) → get_or (places ++ drop n blank) q 0 ≡ pick (ltb q (told b 2)) (entry b q) 0
    told_or_not q h (yes k) = rw (lt-ltb q (told b 2) (omega (arith, w.few))) (get_or-append places (drop n blank) 0 q (omega (arith, w.long)) ∙ w.written q (omega arith))
    told_or_not q h (no k) = rw (le-ltb q (told b 2) (omega (arith, w.few)))
        (get_or-append_right places (drop n blank) q 0 (omega (arith, w.long))
        ∙ get_or-drop n blank (q - length places) 0
        ∙ get_or-replicate {A = ℕ} max_prods (n + (q - length places)) 0 0 (omega (arith, w.long)))

-- THEOREM: an index is the only one of its book
pub index_once : {b x y : List ℕ} → Index b x → Index b y → x ≡ y
index_once {b} {x} {y} i j =
    ext_get_or 0 x y (i.long ∙ sym j.long) (λ p h. i.each p (omega (arith, i.long)) ∙ sym (j.each p (omega (arith, i.long))))
