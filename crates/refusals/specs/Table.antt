-- The numbers of the rows of the paper's table of refusals, and what an answer says in these numbers.
use Rattle.std.specs.Prelude.{List, ℕ, Result, Ok, Err}
use Rattle.lists.specs.Refusals.{Said, accepted, refused}
use Rattle.refusals.specs.declared.Refusal.{Refusal}
use Rattle.refusals.specs.declared.Refusal.TheVariants.{BookTooShort, UnknownEdition, OutOfRange, BadLayout, BadKind, BadChildren, BadPairs, NoProduction, ShortSets, ManyPlausible, ManyFeasible, ShortUpTable, ShortDownTable, BadSheetSize, UnknownProduction, Misfit, TooDeep, ShortRoom, BadTables, BadInput}
use Rattle.refusals.specs.declared.Refused.{Refused}

-- the row's number in the paper
abbrev pub number_of : Refusal → ℕ
number_of BookTooShort = 1
number_of UnknownEdition = 2
number_of OutOfRange = 3
number_of BadLayout = 4
number_of BadKind = 5
number_of BadChildren = 6
number_of BadPairs = 7
number_of NoProduction = 8
number_of ShortSets = 9
number_of ManyPlausible = 10
number_of ManyFeasible = 11
number_of ShortUpTable = 12
number_of ShortDownTable = 13
number_of BadSheetSize = 20
number_of UnknownProduction = 21
number_of Misfit = 22
number_of TooDeep = 23
number_of ShortRoom = 24
number_of BadTables = 25
number_of BadInput = 30

-- what an answer says: accepted, with its counts; or refused, with number and place
abbrev pub said_by : {A : Type 0} → (A → List ℕ) → Result A Refused → Said
said_by counts (Ok a) = accepted (counts a)
said_by counts (Err r) = refused (number_of r.refusal) r.place
