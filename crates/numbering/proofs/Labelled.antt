-- Numbers given by labels: how many there are, and that those of one list after another are given one after the other.
use mathlib.Core.Path.{◌≡◌, refl, ap, ap₂, ◌∙◌}
use mathlib.Core.Bool.{Bool, true, false}
use mathlib.Core.List.{List, [], ◌∷◌, ◌++◌, append_assoc, append-nil}
use Prim.Native.Nat.{ℕ, zero, suc, ◌+◌, ◌≤◌}
use native.Mathlib.Omega.{arith}
use lib.ListN.{length, length-append}
use Rattle.lists.specs.Pick.{pick}
use Rattle.chains.specs.Grammar.{Grammar}
use Rattle.numbering.specs.Walk.{Tables, Held, holder, holds, held, numbered, unused, slot_labels, kid_labels}
use Rattle.numbering.specs.Giving.{kinds_width}

pub numbered_long : (hs : List Held) (n : ℕ) (xs : List ℕ) → length (numbered hs n xs) ≡ length xs
unfolding numbered
numbered_long hs n [] = refl
numbered_long hs n (x ∷ xs) = ap suc (numbered_long (hs ++ (x, holder x hs n) ∷ []) (pick (holds x hs) n (suc n)) xs)

-- what holds the labels xs after those held
abbrev pub holding : List Held → ℕ → List ℕ → List Held
holding hs n xs = hs ++ held xs (numbered hs n xs)

-- one label more
holding_first : (hs : List Held) (n x : ℕ) (xs : List ℕ)
    → holding (hs ++ (x, holder x hs n) ∷ []) (pick (holds x hs) n (suc n)) xs ≡ holding hs n (x ∷ xs)
unfolding numbered
holding_first hs n x xs = append_assoc hs ((x, holder x hs n) ∷ []) _

-- further labels after the labels xs
pub numbered_append : (hs : List Held) (n : ℕ) (xs ys : List ℕ) → numbered hs n (xs ++ ys) ≡ numbered hs n xs ++ numbered (holding hs n xs) (unused hs n xs) ys
unfolding numbered unused
numbered_append hs n [] ys = rw (append-nil hs)
numbered_append hs n (x ∷ xs) ys =
    let n' = pick (holds x hs) n (suc n) in
    let hs' = hs ++ (x, holder x hs n) ∷ [] in
    ap (λ t. holder x hs n ∷ t) (numbered_append hs' n' xs ys ∙ ap (λ t. numbered hs' n' xs ++ numbered t (unused hs' n' xs) ys) (holding_first hs n x xs))

pub unused_append : (hs : List Held) (n : ℕ) (xs ys : List ℕ) → unused hs n (xs ++ ys) ≡ unused (holding hs n xs) (unused hs n xs) ys
unfolding numbered unused
unused_append hs n [] ys = rw (append-nil hs)
unused_append hs n (x ∷ xs) ys =
    let n' = pick (holds x hs) n (suc n) in
    let hs' = hs ++ (x, holder x hs n) ∷ [] in
    unused_append hs' n' xs ys ∙ ap (λ t. unused t (unused hs' n' xs) ys) (holding_first hs n x xs)

-- the next unused number rises by at most one for each label
next_bounds : (b : Bool) (n : ℕ) → (n ≤ pick b n (suc n)) × (pick b n (suc n) ≤ suc n)
next_bounds true n = (omega arith, omega arith)
next_bounds false n = (omega arith, omega arith)

pub unused_bounds : (hs : List Held) (n : ℕ) (xs : List ℕ) → (n ≤ unused hs n xs) × (unused hs n xs ≤ n + length xs)
unfolding unused
unused_bounds hs n [] = (omega arith, omega arith)
unused_bounds hs n (x ∷ xs) =
    let h = next_bounds (holds x hs) n in
    let i = unused_bounds (hs ++ (x, holder x hs n) ∷ []) (pick (holds x hs) n (suc n)) xs in
    (omega (arith, h.0, i.0), omega (arith, h.1, i.1))

-- ── labels of slots ──
pub slot_labels_long : (T : Tables) (e s a n : ℕ) → length (slot_labels T e s a n) ≡ n
unfolding slot_labels
slot_labels_long T e s a zero = refl
slot_labels_long T e s a (suc n) = ap suc (slot_labels_long T e s (suc a) n)

pub kid_labels_long : (G : Grammar) (T : Tables) (e s : ℕ) (ks : List ℕ) → length (kid_labels G T e s ks) ≡ kinds_width G ks
unfolding kid_labels kinds_width
kid_labels_long G T e s [] = refl
kid_labels_long G T e s (k ∷ ks) =
    length-append (slot_labels T e s 0 (G.settings k)) (kid_labels G T e (suc s) ks)
    ∙ ap₂ ◌+◌ (slot_labels_long T e s 0 (G.settings k)) (kid_labels_long G T e (suc s) ks)
