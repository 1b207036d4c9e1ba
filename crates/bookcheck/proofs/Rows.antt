-- The rows of the table: which comes first, and that a check has one answer.
use mathlib.Core.Path.{◌≡◌, refl}
use mathlib.Core.Logic.{inl, inr}
use mathlib.Core.List.{List, [], ◌∷◌}
use Prim.Native.Nat.{ℕ, zero, suc, ◌+◌, ◌≤◌, ◌<◌}
use native.Mathlib.Decide.{dec_lt}
use native.Mathlib.Omega.{arith}
use lib.ListN.{length}
use Rattle.lists.specs.Refusals.{accepted, refused, Sooner}
use Rattle.lists.specs.Sought.{Free}
use Rattle.book.specs.Format.{trailer_bytes, Known, kinds, prods, Laid, grammar}
use Rattle.bookcheck.specs.Refusals.{OutOfRange, BadKind, BadKids, BadTies, Headless, Applies, short, other_edition, out_of_range, not_laid, bad_kind, bad_kids, bad_ties, headless, turn, BookDue}

-- the first of some rows, or one of the others
abbrev Else : Type 0 → (ℕ → Type 0) → ℕ → Type 0
Else P rest zero = P
Else P rest (suc n) = rest n

-- what row n says of the place p: there is no row 0, then come 1 to 8
abbrev Says : List ℕ → ℕ → ℕ → Type 0
Says b n p =
    Else ⊥
    (Else ((p ≡ 0) × (length b < trailer_bytes))
    (Else ((p ≡ 0) × (Known b → ⊥))
    (Else ((p ≡ 0) × OutOfRange b)
    (Else ((p ≡ 0) × (Laid b → ⊥))
    (Else ((p < kinds b) × BadKind (grammar b) p)
    (Else ((p < prods b) × BadKids (grammar b) p)
    (Else ((p < prods b) × BadTies (grammar b) p)
    (Else ((p < kinds b) × Headless (grammar b) p) (λ _. ⊥)))))))))
    n

says : {b : List ℕ} {n p : ℕ} → Applies b n p → Says b n p
says (short h) = (refl, h)
says (other_edition h) = (refl, h)
says (out_of_range h) = (refl, h)
says (not_laid h) = (refl, h)
says (bad_kind k l h) = (l, h)
says (bad_kids p l h) = (l, h)
says (bad_ties p l h) = (l, h)
says (headless k l h) = (l, h)

-- no row before n applies anywhere
abbrev pub Clear : List ℕ → ℕ → Type 0
Clear b n = (m q : ℕ) → m < n → Applies b m q → ⊥

clear_first : (b : List ℕ) → Clear b 1
clear_first b m q h a = let z : m ≡ 0 = omega arith in says (rw z at a)

clear_next : (b : List ℕ) (n : ℕ) → Clear b n → ((q : ℕ) → Applies b n q → ⊥) → Clear b (n + 1)
clear_next b n c none m q h a = go (dec_lt m n)
  where
    go : Dec (m < n) → ⊥
    go (yes l) = c m q l a
    go (no l) = let z : m ≡ n = omega arith in none q (rw z at a)

-- row n applies at p and at no earlier place, and no row before it applies
pub due_refused : (b : List ℕ) (n p : ℕ) → Clear b n → Applies b n p → ((q : ℕ) → q < p → Applies b n q → ⊥) → BookDue b (refused n p)
due_refused b n p c a first = ((n, p), refl, refl, (a, sooner))
  where
    sooner : (j : ℕ × ℕ) → Sooner (turn j) (turn (n, p)) → Applies b j.0 j.1 → ⊥
    sooner (m, q) (inl l) x = c m q l x
    sooner (m, q) (inr (e, inl l)) x = first q l (rw e at x)
    sooner (m, q) (inr (e, inr never)) x = never.1

-- the table ends with row 8
pub row_of_book : {b : List ℕ} {n p : ℕ} → Applies b n p → n < 9
row_of_book (short h) = omega arith
row_of_book (other_edition h) = omega arith
row_of_book (out_of_range h) = omega arith
row_of_book (not_laid h) = omega arith
row_of_book (bad_kind k l h) = omega arith
row_of_book (bad_kids p l h) = omega arith
row_of_book (bad_ties p l h) = omega arith
row_of_book (headless k l h) = omega arith

module _ (b : List ℕ) where
  pub due_1 : length b < trailer_bytes → BookDue b (refused 1 0)
  due_1 h = due_refused b 1 0 (clear_first b) (short h) (λ q l a. omega arith)

  module _ (h1 : trailer_bytes ≤ length b) where
    clear_1 : Clear b 2
    clear_1 = clear_next b 1 (clear_first b) (λ q a. let s = says a in omega arith)

    pub due_2 : (Known b → ⊥) → BookDue b (refused 2 0)
    due_2 h = due_refused b 2 0 clear_1 (other_edition h) (λ q l a. omega arith)

    module _ (h2 : Known b) where
      clear_2 : Clear b 3
      clear_2 = clear_next b 2 clear_1 (λ q a. (says a).1 h2)

      pub due_3 : OutOfRange b → BookDue b (refused 3 0)
      due_3 h = due_refused b 3 0 clear_2 (out_of_range h) (λ q l a. omega arith)

      module _ (h3 : OutOfRange b → ⊥) where
        clear_3 : Clear b 4
        clear_3 = clear_next b 3 clear_2 (λ q a. h3 (says a).1)

        pub due_4 : (Laid b → ⊥) → BookDue b (refused 4 0)
        due_4 h = due_refused b 4 0 clear_3 (not_laid h) (λ q l a. omega arith)

        module _ (h4 : Laid b) where
          clear_4 : Clear b 5
          clear_4 = clear_next b 4 clear_3 (λ q a. (says a).1 h4)

          pub due_5 : (k : ℕ) → k < kinds b → BadKind (grammar b) k → Free (BadKind (grammar b)) k → BookDue b (refused 5 k)
          due_5 k l h f = due_refused b 5 k clear_4 (bad_kind k l h) (λ q i a. f q i (says a).1)

          module _ (h5 : Free (BadKind (grammar b)) (kinds b)) where
            clear_5 : Clear b 6
            clear_5 = clear_next b 5 clear_4 (λ q a. let s = says a in h5 q s.0 s.1)

            pub due_6 : (p : ℕ) → p < prods b → BadKids (grammar b) p → Free (BadKids (grammar b)) p → BookDue b (refused 6 p)
            due_6 p l h f = due_refused b 6 p clear_5 (bad_kids p l h) (λ q i a. f q i (says a).1)

            module _ (h6 : Free (BadKids (grammar b)) (prods b)) where
              clear_6 : Clear b 7
              clear_6 = clear_next b 6 clear_5 (λ q a. let s = says a in h6 q s.0 s.1)

              pub due_7 : (p : ℕ) → p < prods b → BadTies (grammar b) p → Free (BadTies (grammar b)) p → BookDue b (refused 7 p)
              due_7 p l h f = due_refused b 7 p clear_6 (bad_ties p l h) (λ q i a. f q i (says a).1)

              module _ (h7 : Free (BadTies (grammar b)) (prods b)) where
                clear_7 : Clear b 8
                clear_7 = clear_next b 7 clear_6 (λ q a. let s = says a in h7 q s.0 s.1)

                pub due_8 : (k : ℕ) → k < kinds b → Headless (grammar b) k → Free (Headless (grammar b)) k → BookDue b (refused 8 k)
                due_8 k l h f = due_refused b 8 k clear_7 (headless k l h) (λ q i a. f q i (says a).1)

                pub due_accepted : Free (Headless (grammar b)) (kinds b) → BookDue b (accepted (kinds b ∷ prods b ∷ []))
                due_accepted h8 = (refl, λ f. last f (dec_lt f.0 9))
                  where
                    clear_8 : Clear b 9
                    clear_8 = clear_next b 8 clear_7 (λ q a. let s = says a in h8 q s.0 s.1)

                    last : (f : ℕ × ℕ) → Dec (f.0 < 9) → Applies b f.0 f.1 → ⊥
                    last f (yes l) a = clear_8 f.0 f.1 l a
                    last f (no l) a = let h = row_of_book a in omega arith
