-- Parts of lists, and lists put over a part: what stands there, before it and after it.
use mathlib.Core.Path.{◌≡◌, refl, sym, ap, ◌∙◌}
use mathlib.Core.List.{List, ◌++◌, append_assoc}
use Prim.Native.Nat.{ℕ, ◌+◌, ◌-◌, ◌≤◌, ◌<◌}
use native.Mathlib.Omega.{arith}
use lib.ListN.{length, get_or, take, drop, length-append, length-drop, take-append-drop, get_or-append}
use lib.Seq.{get_or-take, get_or-drop, get_or-append-add, take_at, drop_at, take-append-le, drop-append-le, length-take-le, drop-drop, drop-append-add}
use Rattle.lists.specs.Part.{part, place}

module _ {A : Type 0} (base n : ℕ) (s : List A) where
  pub length_part : base + n ≤ length s → length (part base n s) ≡ n
  length_part h = length-take-le n (drop base s) (rw length-drop (omega arith))

  pub get_d_part : (i : ℕ) (d : A) → i < n → get_or (part base n s) i d ≡ get_or s (base + i) d
  get_d_part i d h = get_or-take n (drop base s) i d h ∙ get_or-drop base s i d

-- a part that ends within p is a part of p
in_front : {A : Type 0} (p q : List A) (a n : ℕ) → a + n ≤ length p → part a n (p ++ q) ≡ part a n p
in_front p q a n h =
    let k : n ≤ length (drop a p) = rw length-drop (omega arith) in
    rw (drop-append-le a p q (omega arith), take-append-le n (drop a p) q k)

module _ {A : Type 0} (s : List A) (b : ℕ) (l : List A) (h : b + length l ≤ length s) where
  front_long : length (take b s) ≡ b
  front_long = length-take-le b s (omega arith)

  both_long : length (take b s ++ l) ≡ b + length l
  both_long = rw (length-append, front_long)

  pub place_long : length (place b l s) ≡ length s
  place_long = rw (length-append, length-append, length-drop, front_long) (omega arith)

  -- what was put there
  pub place_this : part b (length l) (place b l s) ≡ l
  place_this = rw (append_assoc, drop_at (take b s) (l ++ drop (b + length l) s) b front_long) (take_at l _ (length l) refl)

  -- what stands before it
  pub place_before : (a n : ℕ) → a + n ≤ b → part a n (place b l s) ≡ part a n s
  place_before a n g =
      ap (part a n) (append_assoc (take b s) l (drop (b + length l) s))
      ∙ in_front (take b s) (l ++ drop (b + length l) s) a n (omega (arith, front_long))
      ∙ sym (in_front (take b s) (drop b s) a n (omega (arith, front_long)))
      ∙ ap (part a n) (take-append-drop b s)

  -- what stands after it
  pub place_after : (a n : ℕ) → b + length l ≤ a → part a n (place b l s) ≡ part a n s
  place_after a n g =
      let e : a ≡ length (take b s ++ l) + (a - (b + length l)) = omega (arith, both_long) in
      let d : (b + length l) + (a - (b + length l)) ≡ a = omega arith in
      ap (λ (k : ℕ). take n (drop k (place b l s))) e
      ∙ ap (take n) (drop-append-add (take b s ++ l) (drop (b + length l) s) (a - (b + length l)) ∙ drop-drop (a - (b + length l)) (b + length l) s ∙ ap (λ (k : ℕ). drop k s) d)

  -- the same, place by place
  pub get_d_before : (i : ℕ) (d : A) → i < b → get_or (place b l s) i d ≡ get_or s i d
  get_d_before i d k =
      ap (λ (u : List A). get_or u i d) (append_assoc (take b s) l (drop (b + length l) s))
      ∙ get_or-append (take b s) (l ++ drop (b + length l) s) d i (omega (arith, front_long)) ∙ get_or-take b s i d k

  pub get_d_this : (i : ℕ) (d : A) → i < length l → get_or (place b l s) (b + i) d ≡ get_or l i d
  get_d_this i d k = sym (get_d_part b (length l) (place b l s) i d k) ∙ ap (λ (u : List A). get_or u i d) place_this

  pub get_d_after : (i : ℕ) (d : A) → b + length l ≤ i → get_or (place b l s) i d ≡ get_or s i d
  get_d_after i d k =
      let e : i ≡ length (take b s ++ l) + (i - (b + length l)) = omega (arith, both_long) in
      let g : (b + length l) + (i - (b + length l)) ≡ i = omega arith in
      ap (λ (u : ℕ). get_or (place b l s) u d) e ∙ get_or-append-add (take b s ++ l) (drop (b + length l) s) (i - (b + length l)) d
      ∙ get_or-drop (b + length l) s (i - (b + length l)) d ∙ ap (λ (u : ℕ). get_or s u d) g
