-- The admission has one answer.
use mathlib.Core.Path.{◌≡◌, refl}
use mathlib.Core.List.{List, [], ◌∷◌}
use Prim.Native.Nat.{ℕ}
use lib.ListN.{length}
use Rattle.std.proofs.Common.{Result}
use Rattle.lists.proofs.Refusals.{Orderly, due_once}
use Rattle.refusals.specs.declared.Refused.{Refused}
use Rattle.book.specs.Format.{grammar}
use Rattle.sheet.specs.Reading.{all_settings}
use Rattle.sheet.specs.declared.Counts.{Counts}
use Rattle.sheet.proofs.Once.{answer_once}
use Rattle.admission.specs.declared.Lengths.{Lengths}
use Rattle.admission.specs.Answer.{said}
use Rattle.admission.specs.Refusals.{Applies, turn, AdmissionDue}

orderly : Orderly turn (λ f. f.0) (λ f. f.1)
orderly = record { long = λ j k. refl; one = λ j k e. (cc, cc) }

-- THEOREM: two answers that are due to one book, one sheet and the same lengths are the same
pub admit_once : (b l : List ℕ) (m : Lengths) (r s : Result Counts Refused) → AdmissionDue b l m (said r) → AdmissionDue b l m (said s) → r ≡ s
admit_once b l m r s d e =
    answer_once r s (due_once turn (λ f. f.0) (λ f. f.1) (λ f. Applies b l m f.0 f.1) (length l ∷ all_settings (grammar b) l ∷ []) orderly (said r) (said s) d e)
