-- What a word tells: 0 is acceptance, and any other word is one refusal's number and place.
use mathlib.Core.Path.{◌≡◌, sym, ap, ◌∙◌}
use mathlib.Core.List.{List, [], ◌∷◌}
use Prim.Native.Nat.{ℕ, ◌/◌, ◌%◌, ◌<◌}
use native.Mathlib.Omega.{arith}
use Rattle.lists.specs.Refusals.{Said, refused}
use Rattle.lists.proofs.Refusals.{due_once}
use Rattle.book.specs.Format.{kinds, prods}
use Rattle.bookcheck.specs.Refusals as book
use Rattle.bookcheck.proofs.Once.{rows_orderly}
use Rattle.sheet.specs.Refusals as sheet
use Rattle.sheet.proofs.Once as sheet_once
use Rattle.sheet.proofs.Refusals.{fault_high, Row, books, lengths, reads, row}
use Rattle.service.specs.Word.{word, Narrow, Spoken}

-- number and place are read off it
pub read_off : (n p : ℕ) → Narrow (refused n p) → (word (refused n p) / 65536 ≡ n) × (word (refused n p) % 65536 ≡ p)
read_off n p h = (omega arith, omega arith)

-- where one answer is due, one word is
word_once : {Due : Said → Type 0} {v w : ℕ} → ((s t : Said) → Due s → Due t → s ≡ t) → Spoken Due v → Spoken Due w → v ≡ w
word_once once a b = a.is ∙ ap word (once a.said b.said a.due b.due) ∙ sym b.is

-- THEOREM: the promise of the exported book check leaves one word
pub book_word_once : (b : List ℕ) (v w : ℕ) → Spoken (book.BookDue b) v → Spoken (book.BookDue b) w → v ≡ w
book_word_once b v w = word_once (due_once book.turn (λ f. f.0) (λ f. f.1) (λ f. book.Applies b f.0 f.1) (kinds b ∷ prods b ∷ []) rows_orderly)

-- THEOREM: and so does that of the sheet check
pub sheet_word_once : (b l : List ℕ) (v w : ℕ) → Spoken (sheet.SheetDue b l) v → Spoken (sheet.SheetDue b l) w → v ≡ w
sheet_word_once b l v w = word_once (sheet_once.said_once b l)

book_number : {b : List ℕ} {n p : ℕ} → book.Applies b n p → 0 < n
book_number (book.short h) = omega arith
book_number (book.other_edition h) = omega arith
book_number (book.out_of_range h) = omega arith
book_number (book.not_laid h) = omega arith
book_number (book.bad_kind k h q) = omega arith
book_number (book.bad_kids p h q) = omega arith
book_number (book.bad_ties p h q) = omega arith
book_number (book.headless k h q) = omega arith

row_number : {b l : List ℕ} {n p : ℕ} → Row b l n p → 0 < n
row_number (books a) = book_number a
row_number (lengths e f h) = omega arith
row_number (reads ds r f) = omega (arith, fault_high f)

-- THEOREM: a refusal's word is never 0
pub book_word_tells : (b : List ℕ) (n p : ℕ) → book.BookDue b (refused n p) → 0 < word (refused n p)
book_word_tells b n p ((m, q), en, ep, f) = omega (arith, book_number f.0)

pub sheet_word_tells : (b l : List ℕ) (n p : ℕ) → sheet.SheetDue b l (refused n p) → 0 < word (refused n p)
sheet_word_tells b l n p ((m, q), en, ep, f) = omega (arith, row_number (row f.0))
