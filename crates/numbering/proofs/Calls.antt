-- What a call may lean on: its book is accepted, and its sheet is a tree of it.
use Rattle.std.proofs.Common.{◌≡◌, List, ℕ, ◌+◌, ◌-◌, ◌<◌, ◌≤◌, length, get_or, take, drop, refl, ap, ◌∙◌, arith}
use Rattle.chains.specs.Limits.{max_settings, max_kids, max_prods, max_nodes}
use Rattle.book.specs.Format.{kinds, prods, left_at, arity_at, entry}
use Rattle.book.specs.Reading.{told, settings_of}
use Rattle.bookcheck.specs.Accepted.{Accepted}
use Rattle.bookcheck.proofs.Accepted.{told_kinds, told_prods, told_start, place_read, settings_read, inside}
use Rattle.sheet.specs.Trees.{Fits}
use Rattle.sheet.proofs.Accepted.{book_accepted, accepted_sheet}
use Rattle.numbering.specs.Parts.{grammar_in, TreeIn}
use Rattle.numbering.specs.declared.call.Call.{Call}
use Rattle.numbering.proofs.Trees.{node_at}

module _ (x : Call) where
  abbrev book : List ℕ
  book = x.book.now

  pub fits_in : Fits x.book.now x.sheet.now
  fits_in = (accepted_sheet x.book.now x.sheet.now _ _ (refl, x.unrefused)).0

  pub accepted_in : Accepted x.book.now
  accepted_in = book_accepted x.book.now fits_in.sound

  pub tree_in : TreeIn x
  tree_in = let f = fits_in in record { tree = f.tree; kinded = f.drawn.kinded; reads = f.drawn.bytes }

  pub few_nodes : length x.sheet.now ≤ max_nodes
  few_nodes = fits_in.few

  pub some_nodes : 1 ≤ length x.sheet.now
  some_nodes = fits_in.some

  -- each byte of the sheet is a production
  pub known_in : (i : ℕ) → i < length x.sheet.now → get_or x.sheet.now i 0 < prods x.book.now
  known_in i h = (node_at tree_in i h).known

  pub kinds_is : {n : ℕ} → n ≡ told x.book.now 1 → n ≡ kinds x.book.now
  kinds_is e = e ∙ told_kinds accepted_in

  pub prods_is : {n : ℕ} → n ≡ told x.book.now 2 → (n ≡ prods x.book.now) × (n ≤ max_prods)
  prods_is e = let q = e ∙ told_prods accepted_in in (q, omega (arith, q, accepted_in.few_prods))

  pub start_low : {k : ℕ} → k ≡ told x.book.now 3 → k < kinds x.book.now
  start_low e = omega (arith, accepted_in.lawful.start_in, e ∙ told_start accepted_in)

  pub width_is : (k : ℕ) {n : ℕ} → n ≡ settings_of x.book.now k → n ≡ (grammar_in x).settings k
  width_is k e = e ∙ settings_read accepted_in k

  pub width_low : (k : ℕ) {n : ℕ} → k < kinds x.book.now → n ≡ settings_of x.book.now k → n ≤ max_settings
  width_low k h e = omega (arith, width_is k e, accepted_in.lawful.few_settings k h)

  -- ── the entry of production p ──
  module _ {p : ℕ} (known : p < prods x.book.now) where
    pub few_prods : p < max_prods
    few_prods = omega (arith, known, accepted_in.few_prods)

    place_is : get_or x.places p 0 ≡ entry x.book.now p
    place_is = place_read accepted_in x.indexed p known

    pub left_is : {y : ℕ} → y ≡ left_at x.book.now (get_or x.places p 0) → y ≡ (grammar_in x).left p
    left_is e = e ∙ ap (left_at x.book.now) place_is

    pub left_low : (grammar_in x).left p < kinds x.book.now
    left_low = accepted_in.lawful.left_in p known

    -- its children's kinds stand behind their number, before the trailer
    pub kids_inside : {n : ℕ} → n ≡ arity_at x.book.now (get_or x.places p 0) → get_or x.places p 0 + 2 + n ≤ length x.book.now
    kids_inside {n} e =
        let a : n ≡ arity_at x.book.now (entry x.book.now p) = e ∙ ap (arity_at x.book.now) place_is in
        omega (arith, place_is, a, inside accepted_in p known)

    pub kids_are : {n : ℕ} → n ≡ arity_at x.book.now (get_or x.places p 0)
        → take (get_or x.places p 0 + 2 + n - (get_or x.places p 0 + 2)) (drop (get_or x.places p 0 + 2) x.book.now) ≡ (grammar_in x).kids p
    kids_are {n} e =
        let a : get_or x.places p 0 + 2 + n - (get_or x.places p 0 + 2) ≡ n = omega arith in
        rw (a, e, place_is) refl

    pub few_kids : length ((grammar_in x).kids p) ≤ max_kids
    few_kids = accepted_in.lawful.few_kids p known

    -- kinds ks read off as its children's are kinds of the book
    pub kid_low : {ks : List ℕ} → ks ≡ (grammar_in x).kids p → (j : ℕ) → j < length ks → get_or ks j 0 < kinds x.book.now
    kid_low e j h = omega (arith, ap (λ t. get_or t j 0) e, accepted_in.lawful.kids_in p j known (omega (arith, ap length e)))
