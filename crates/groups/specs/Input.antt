-- What comes in: the sheet's length as two bytes, the low one first, then the sheet, then the book.
use Rattle.std.specs.Prelude.{ℕ, ◌+◌, ◌*◌, ◌<◌, ◌≡◌, List, length, get_or, drop}
use Rattle.lists.specs.Part.{part}
use Rattle.groups.specs.Room.{most_input}

abbrev pub sheet_length : List ℕ → ℕ
sheet_length input = get_or input 0 0 + 256 * get_or input 1 0

-- the sheet and the book of an input
abbrev pub sheet_of : List ℕ → List ℕ
sheet_of input = part 2 (sheet_length input) input

abbrev pub book_of : List ℕ → List ℕ
book_of input = drop (2 + sheet_length input) input

-- refusal 30: over its limit, without a length, or shorter than the sheet says
pub data Thirty (input : List ℕ) : Type 0 where
  long : most_input < length input → Thirty input
  lengthless : length input < 2 → Thirty input
  short : length input < 2 + sheet_length input → Thirty input

-- an input that is not refused, cut into its sheet l and its book b
pub record Cut (input l b : List ℕ) : Type 0 where
  pub taken : Thirty input → ⊥
  pub sheet : l ≡ sheet_of input
  pub book : b ≡ book_of input
