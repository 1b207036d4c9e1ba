-- What the program answers: the text that is due for an input.
use Rattle.std.specs.Prelude.{ℕ, ◌≡◌, List}
use Rattle.lists.specs.Refusals.{Said, accepted, refused}
use Rattle.tables.specs.Promise as tables
use Rattle.numbering.specs.Walk.{Tables, tables}
use Rattle.numbering.specs.Promise as numbering
use Rattle.groups.specs.Room.{build_room, sheet_room}
use Rattle.groups.specs.Input.{sheet_of, book_of, Thirty}
use Rattle.groups.specs.Printed.{refusal, printed}

-- the tables that a build left
abbrev pub tables_of : tables.Lent → Tables
tables_of m = tables m.plausible_counts m.feasible_counts m.up m.down

-- what is due for the sheet l by the tables T
pub record SheetText (b l : List ℕ) (T : Tables) (text : List ℕ) : Type 0 where
  pub said : Said
  pub left : numbering.Lent
  pub due : numbering.CallDue b l T sheet_room said left
  pub shown : text ≡ printed b l said left

-- what is due for the book b and the sheet l: the build's refusal, or what the sheet call says by the tables built
pub data BookText (b l text : List ℕ) : Type 0 where
  not_built : (n p : ℕ) (m : tables.Lent) → tables.BuildDue b build_room (refused n p) m → text ≡ refusal n p → BookText b l text
  built : (counts : List ℕ) (m : tables.Lent) → tables.BuildDue b build_room (accepted counts) m → SheetText b l (tables_of m) text → BookText b l text

-- THE PROMISE of the program, but for reading and writing
pub data Answers (input text : List ℕ) : Type 0 where
  thirty : Thirty input → text ≡ refusal 30 0 → Answers input text
  taken : (Thirty input → ⊥) → BookText (book_of input) (sheet_of input) text → Answers input text
