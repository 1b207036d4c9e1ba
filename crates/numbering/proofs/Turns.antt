-- The rows of the call's table and their turns.
use mathlib.Core.Path.{◌≡◌, refl}
use mathlib.Core.Logic.{◌⊎◌, inl, inr}
use mathlib.Core.List.{List}
use Prim.Native.Nat.{ℕ, ◌<◌}
use native.Mathlib.Omega.{arith}
use lib.ListN.{length}
use Rattle.lists.specs.Refusals.{Sooner}
use Rattle.chains.specs.Tree.{Bush, Sub}
use Rattle.chains.proofs.Nodes.{sub_in}
use Rattle.book.specs.Format.{grammar}
use Rattle.admission.specs.Refusals as admission
use Rattle.admission.proofs.Turns.{key_most}
use Rattle.numbering.specs.Walk.{Tables}
use Rattle.numbering.specs.Promise.{Lent, TreeOf, BigCount, Applies, of_sheet, short_counts, short_room, big_count, bad_up, bad_root, bad_down, turn}
use Rattle.numbering.specs.Admitting.{measures}
use Rattle.numbering.specs.Parts.{Fails, upward, root, downward}
use Rattle.numbering.proofs.Trees.{tree_size}

-- a row is the admission's, whose turn is its place, a count over the limit, or a read
pub data Row (b l : List ℕ) (T : Tables) (m : Lent) (n p t : ℕ) : Type 0 where
  earlier : admission.Applies b l (measures T m) n p → t ≡ p → Row b l T m n p t
  bigs : n ≡ 25 → p ≡ 0 → t ≡ 0 → BigCount (grammar b) T → Row b l T m n p t
  reads : n ≡ 25 → (f : TreeOf (grammar b) l) → Fails (grammar b) T f.tree (length l) p t → Row b l T m n p t

pub row : {b l : List ℕ} {T : Tables} {m : Lent} {n p t : ℕ} → Applies b l T m n p t → Row b l T m n p t
row (of_sheet a) = earlier (admission.of_sheet a) refl
row (short_counts h) = earlier (admission.short_counts h) refl
row (short_room h) = earlier (admission.short_room h) refl
row (big_count h) = bigs refl refl refl h
row (bad_up f i q ds s h) = reads refl f (upward i q ds s h)
row (bad_root f h) = reads refl f (root h)
row (bad_down f i q ds s h) = reads refl f (downward i q ds s h)

pub earlier_applies : {b l : List ℕ} {T : Tables} {m : Lent} {n p : ℕ} → admission.Applies b l (measures T m) n p → Applies b l T m n p p
earlier_applies (admission.of_sheet a) = of_sheet a
earlier_applies (admission.short_counts h) = short_counts h
earlier_applies (admission.short_room h) = short_room h

pub read_applies : {b l : List ℕ} {T : Tables} {m : Lent} (f : TreeOf (grammar b) l) {p t : ℕ} → Fails (grammar b) T f.tree (length l) p t → Applies b l T m 25 p t
read_applies f (upward i q ds s h) = bad_up f i q ds s h
read_applies f (root h) = bad_root f h
read_applies f (downward i q ds s h) = bad_down f i q ds s h

-- among the admission's rows turns go as in its own table
pub among_earlier : (k q n p : ℕ) → Sooner (turn (k, q, q)) (turn (n, p, p)) → Sooner (admission.turn (k, q)) (admission.turn (n, p))
among_earlier k q n p (inl x) = inl x
among_earlier k q n p (inr (e, inl x)) = inr (e, inl x)
among_earlier k q n p (inr (e, inr (f, inl x))) = inr (e, inr (f, inl x))
among_earlier k q n p (inr (e, inr (f, inr (g, inl x)))) = absurd (omega arith)
among_earlier k q n p (inr (e, inr (f, inr (g, inr (i, x))))) = absurd x

-- and 25 is sooner than none of them
pub after_earlier : (q s n p t : ℕ) → n < 25 → Sooner (turn (25, q, s)) (turn (n, p, t)) → ⊥
after_earlier q s n p t h (inl x) = omega (arith, key_most n 24 (omega arith) (omega arith))
after_earlier q s n p t h (inr (e, x)) = omega (arith, key_most n 24 (omega arith) (omega arith))

-- among the rows of 25 turns go by their own number, then by place
pub among_reads : (q s p t : ℕ) → Sooner (turn (25, q, s)) (turn (25, p, t)) → (s < t) ⊎ ((s ≡ t) × (q < p))
among_reads q s p t (inl x) = absurd (omega arith)
among_reads q s p t (inr (e, inl x)) = inl x
among_reads q s p t (inr (e, inr (f, inl x))) = absurd (omega arith)
among_reads q s p t (inr (e, inr (f, inr (g, inl x)))) = inr (f, x)
among_reads q s p t (inr (e, inr (f, inr (g, inr (i, x))))) = absurd x

-- two reads with one turn have one place
pub one_place : (b l : List ℕ) (T : Tables) (f : TreeOf (grammar b) l) {p q s t : ℕ} → Fails (grammar b) T f.tree (length l) p s → Fails (grammar b) T f.tree (length l) q t → s ≡ t → p ≡ q
one_place b l T f x y e = go x y e
  where
    inside : (i q : ℕ) (ds : Bush) → Sub f.tree 0 i q ds → i < length l
    inside i q ds s = omega (arith, (sub_in f.tree 0 i q ds s).0.1, tree_size f)

    go : {p q s t : ℕ} → Fails (grammar b) T f.tree (length l) p s → Fails (grammar b) T f.tree (length l) q t → s ≡ t → p ≡ q
    go (upward i q ds s h) (upward j q' ds' s' h') e = omega (arith, inside i q ds s, inside j q' ds' s')
    go (upward i q ds s h) (root h') e = absurd (omega arith)
    go (upward i q ds s h) (downward j q' ds' s' h') e = absurd (omega arith)
    go (root h) (upward j q' ds' s' h') e = absurd (omega arith)
    go (root h) (root h') e = refl
    go (root h) (downward j q' ds' s' h') e = absurd (omega arith)
    go (downward i q ds s h) (upward j q' ds' s' h') e = absurd (omega arith)
    go (downward i q ds s h) (root h') e = absurd (omega arith)
    go (downward i q ds s h) (downward j q' ds' s' h') e = omega arith
