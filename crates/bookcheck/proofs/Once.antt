-- A check of a book has one answer.
use mathlib.Core.Path.{◌≡◌, refl}
use mathlib.Core.List.{List, [], ◌∷◌}
use Prim.Native.Nat.{ℕ}
use lib.ListN.{get_or}
use Rattle.std.specs.Prelude.{Result}
use Rattle.lists.proofs.Refusals.{Orderly, due_once}
use Rattle.refusals.specs.declared.Refused.{Refused}
use Rattle.refusals.proofs.Once.{said_by_once}
use Rattle.bookcheck.specs.declared.Counts.{Counts}
use Rattle.bookcheck.specs.Answer.{said}
use Rattle.book.specs.Format.{kinds, prods}
use Rattle.bookcheck.specs.Refusals.{Applies, turn, BookDue}

pub rows_orderly : Orderly turn (λ f. f.0) (λ f. f.1)
rows_orderly = record { long = λ j k. refl; one = λ j k e. (cc, cc) }

-- the counts of a list
abbrev read : List ℕ → Counts
read cs = record { kinds = get_or cs 0 0; productions = get_or cs 1 0 }

-- THEOREM: two answers that are due to one book are the same
pub check_once : (b : List ℕ) (r s : Result Counts Refused) → BookDue b (said r) → BookDue b (said s) → r ≡ s
check_once b r s d e =
    said_by_once (λ c. c.kinds ∷ c.productions ∷ []) read (λ c. refl) r s
    (due_once turn (λ f. f.0) (λ f. f.1) (λ f. Applies b f.0 f.1) (kinds b ∷ prods b ∷ []) rows_orderly (said r) (said s) d e)
