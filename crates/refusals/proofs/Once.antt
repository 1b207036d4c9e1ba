-- Answers that say the same are the same: no two refusals have one number.
use Rattle.std.proofs.Common.{◌≡◌, ℕ, List, [], ◌∷◌, Result, Ok, Err, get_or, refl, sym, ap, ◌∙◌}
use Rattle.lists.specs.Refusals.{Said, accepted, refused}
use Rattle.refusals.specs.Table.{number_of, said_by}
use Rattle.refusals.specs.declared.Refusal.{Refusal}
use Rattle.refusals.specs.declared.Refusal.TheVariants.{BookTooShort, UnknownEdition, OutOfRange, BadLayout, BadKind, BadChildren, BadPairs, NoProduction, ShortSets, ManyPlausible, ManyFeasible, ShortUpTable, ShortDownTable, BadSheetSize, UnknownProduction, Misfit, TooDeep, ShortRoom, BadTables, BadInput}
use Rattle.refusals.specs.declared.Refused.{Refused}

-- the rows of the book, the build and the sheet, each at its number; any other number is the program's
abbrev rows : List Refusal
rows = BadInput
    ∷ BookTooShort ∷ UnknownEdition ∷ OutOfRange ∷ BadLayout ∷ BadKind ∷ BadChildren ∷ BadPairs ∷ NoProduction
    ∷ ShortSets ∷ ManyPlausible ∷ ManyFeasible ∷ ShortUpTable ∷ ShortDownTable
    ∷ BadInput ∷ BadInput ∷ BadInput ∷ BadInput ∷ BadInput ∷ BadInput
    ∷ BadSheetSize ∷ UnknownProduction ∷ Misfit ∷ TooDeep ∷ ShortRoom ∷ BadTables ∷ []

-- the refusal of a number
abbrev named : ℕ → Refusal
named n = get_or rows n BadInput

named_number : (r : Refusal) → named (number_of r) ≡ r
named_number BookTooShort = refl
named_number UnknownEdition = refl
named_number OutOfRange = refl
named_number BadLayout = refl
named_number BadKind = refl
named_number BadChildren = refl
named_number BadPairs = refl
named_number NoProduction = refl
named_number ShortSets = refl
named_number ManyPlausible = refl
named_number ManyFeasible = refl
named_number ShortUpTable = refl
named_number ShortDownTable = refl
named_number BadSheetSize = refl
named_number UnknownProduction = refl
named_number Misfit = refl
named_number TooDeep = refl
named_number ShortRoom = refl
named_number BadTables = refl
named_number BadInput = refl

-- THEOREM: no two refusals have one number
pub number_once : (r s : Refusal) → number_of r ≡ number_of s → r ≡ s
number_once r s e = sym (named_number r) ∙ ap named e ∙ named_number s

-- what an answer says, back to the answer, where its counts can be read off a list
module _ {A : Type 0} (counts : A → List ℕ) (read : List ℕ → A) (read_counts : (a : A) → read (counts a) ≡ a) where
  abbrev back : Said → Result A Refused
  back (accepted cs) = Ok (read cs)
  back (refused n p) = Err (record { refusal = named n; place = p })

  back_said : (r : Result A Refused) → back (said_by counts r) ≡ r
  back_said (Ok a) = ap Ok (read_counts a)
  back_said (Err r) = ap (λ (x : Refusal). Err (record { refusal = x; place = r.place })) (named_number r.refusal)

  -- THEOREM: what an answer says is the whole of it
  pub said_by_once : (r s : Result A Refused) → said_by counts r ≡ said_by counts s → r ≡ s
  said_by_once r s e = sym (back_said r) ∙ ap back e ∙ back_said s
