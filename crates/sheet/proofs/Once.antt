-- Two answers that are due of one sheet against one book are the same.
use mathlib.Core.Path.{◌≡◌, refl, ap}
use mathlib.Core.List.{List, [], ◌∷◌}
use Prim.Native.Nat.{ℕ}
use lib.ListN.{length, get_or}
use Rattle.std.proofs.Common.{Result}
use Rattle.lists.specs.Refusals.{Said}
use Rattle.lists.proofs.Refusals.{Orderly, due_once}
use Rattle.refusals.specs.declared.Refused.{Refused}
use Rattle.refusals.proofs.Once.{said_by_once}
use Rattle.book.specs.Format.{grammar}
use Rattle.sheet.specs.Answer.{said}
use Rattle.sheet.specs.Reading.{all_settings}
use Rattle.sheet.specs.Refusals.{Applies, turn, SheetDue}
use Rattle.sheet.specs.declared.Counts.{Counts}

orderly : Orderly {K = ℕ × ℕ} turn (λ f. f.0) (λ f. f.1)
orderly = record {
  long = λ j k. refl;
  one = λ j k e. (ap (λ (t : List ℕ). get_or t 2 0) e, ap (λ (t : List ℕ). get_or t 1 0) e);
}

pub said_once : (b l : List ℕ) (s t : Said) → SheetDue b l s → SheetDue b l t → s ≡ t
said_once b l = due_once turn (λ f. f.0) (λ f. f.1) (λ f. Applies b l f.0 f.1) (length l ∷ all_settings (grammar b) l ∷ []) orderly

-- what an answer says is the whole of it
pub answer_once : (r s : Result Counts Refused) → said r ≡ said s → r ≡ s
answer_once = said_by_once (λ c. c.nodes ∷ c.settings ∷ []) (λ cs. record { nodes = get_or cs 0 0; settings = get_or cs 1 0 }) (λ c. refl)

-- THEOREM: the promise leaves one answer
pub check_once : (b l : List ℕ) (r s : Result Counts Refused) → SheetDue b l (said r) → SheetDue b l (said s) → r ≡ s
check_once b l r s d e = answer_once r s (said_once b l (said r) (said s) d e)
