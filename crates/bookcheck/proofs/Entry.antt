-- A production entry that ends before the trailer: what the accessors read of it is what the grammar has.
use mathlib.Core.Path.{◌≡◌, refl, ap, ap₂, sym, ◌∙◌}
use mathlib.Core.List.{List, [], ◌∷◌}
use Prim.Native.Nat.{ℕ, zero, suc, ◌+◌, ◌-◌, ◌*◌, ◌<◌}
use native.Mathlib.Omega.{arith}
use lib.ListN.{length, get_or}
use borrow.Author.Tests.{ne_eqb}
use Rattle.chains.specs.Grammar.{Tie}
use Rattle.book.specs.Format.{left_at, arity_at, after_kids, kids_at, pairs_at, bytes_at, occ, ties_of}
use Rattle.book.specs.Reading.{kid_at, to_at, from_at, pair_at, kind_in}
use Rattle.bookcheck.specs.Search.{Stands}
use Rattle.lists.proofs.Parts.{length_part, get_d_part}

-- what stands where a list of ties has ended; no law depends on it
abbrev pub no_tie : Tie
no_tie = ((0, 0), (0, 0))

ties_long : (bs : List ℕ) (n : ℕ) → length bs ≡ 2 * n → length (ties_of bs) ≡ n
unfolding ties_of
ties_long [] n e = omega arith
ties_long (x ∷ []) n e = absurd (omega arith)
ties_long (x ∷ y ∷ bs) n e = let h = ties_long bs (n - 1) (omega arith) in omega arith

tie_of : (bs : List ℕ) (i : ℕ) → 2 * i + 1 < length bs → get_or (ties_of bs) i no_tie ≡ (occ (get_or bs (2 * i) 0), occ (get_or bs (2 * i + 1) 0))
unfolding ties_of
tie_of [] i h = absurd (omega arith)
tie_of (x ∷ []) i h = absurd (omega arith)
tie_of (x ∷ y ∷ bs) zero h = refl
tie_of (x ∷ y ∷ bs) (suc i) h =
    let k : 2 * suc i ≡ suc (suc (2 * i)) = omega arith in
    let l : 2 * suc i + 1 ≡ suc (suc (2 * i + 1)) = omega arith in
    tie_of bs i (omega arith) ∙ ap₂ (λ u v. (occ u, occ v)) (ap (λ n. get_or (x ∷ y ∷ bs) n 0) (sym k)) (ap (λ n. get_or (x ∷ y ∷ bs) n 0) (sym l))

module _ {b : List ℕ} {at : ℕ} (s : Stands b at) where
  pub kids_long : length (kids_at b at) ≡ arity_at b at
  kids_long = length_part (at + 2) (arity_at b at) b (omega (arith, s.laid.whole))

  pub kid_is : (j : ℕ) → j < arity_at b at → kid_at b at j ≡ get_or (kids_at b at) j 0
  kid_is j h = sym (get_d_part (at + 2) (arity_at b at) b j 0 h)

  pub kind_in_is : (t : ℕ) → t < length (left_at b at ∷ kids_at b at) → kind_in b at t ≡ get_or (left_at b at ∷ kids_at b at) t 0
  kind_in_is zero h = refl
  kind_in_is (suc t) h =
      let k : suc t - 1 ≡ t = omega arith in
      rw (ne_eqb (suc t) 0 (λ e. omega arith), k) (kid_is t (omega (arith, kids_long)))

  bytes_long : length (bytes_at b at) ≡ 2 * pairs_at b at
  bytes_long = length_part (after_kids b at + 1) (2 * pairs_at b at) b (omega (arith, s.laid.whole))

  pub ties_count : length (ties_of (bytes_at b at)) ≡ pairs_at b at
  ties_count = ties_long (bytes_at b at) (pairs_at b at) bytes_long

  pub tie_is : (i : ℕ) → i < pairs_at b at → pair_at b at i ≡ get_or (ties_of (bytes_at b at)) i no_tie
  tie_is i h =
      let a = after_kids b at + 1 in
      let d = 2 * pairs_at b at in
      let u : to_at b at i ≡ get_or (bytes_at b at) (2 * i) 0 = sym (get_d_part a d b (2 * i) 0 (omega arith)) in
      let k : a + (2 * i + 1) ≡ a + 2 * i + 1 = omega arith in
      let v : from_at b at i ≡ get_or (bytes_at b at) (2 * i + 1) 0 = ap (λ n. get_or b n 0) (sym k) ∙ sym (get_d_part a d b (2 * i + 1) 0 (omega arith)) in
      ap₂ (λ x y. (occ x, occ y)) u v ∙ sym (tie_of (bytes_at b at) i (omega (arith, bytes_long)))
