-- What the parts of the program promise each other when they print. No promise cites this page.
use Rattle.std.specs.Prelude.{ℕ, ◌+◌, ◌*◌, ◌^◌, ◌≤◌, ◌<◌, ◌≡◌, List, ◌++◌, length, Result, Ok, Err}
use Rattle.refusals.specs.Table.{number_of}
use Rattle.refusals.specs.declared.Refused.{Refused}
use Rattle.book.specs.Format.{grammar}
use Rattle.sheet.specs.Reading.{all_settings}
use Rattle.sheet.specs.Trees.{Fits}
use Rattle.numbering.specs.Promise.{Lent}
use Rattle.numbering.specs.Places.{plausible_rank, feasible_rank, down_entry_of}
use Rattle.groups.specs.Room.{node_room, down_room}
use Rattle.groups.specs.Printed.{refusal}

-- bytes of the longest first line, of the longest line of a node (a position of 4 digits, a production of 3, two ranks of 3,
-- a down entry of 4, 8 group numbers of 5, a blank before all but the first, the end), and of the longest text
abbrev pub most_totals : ℕ
most_totals = 21

abbrev pub most_line : ℕ
most_line = 70

abbrev pub most_text : ℕ
most_text = most_totals + most_line * node_room

-- where w has room behind the text s, it stands there afterwards
pub record Adds (s w s' : List ℕ) : Type 0 where
  pub room : length s + length w ≤ most_text → s' ≡ s ++ w

-- a sheet whose lines can be printed: it fits its book, the answer has the numbers of all nodes, and those are small
pub record Printable (b l : List ℕ) (m : Lent) : Type 0 where
  pub fits : Fits b l
  pub few : length l ≤ node_room
  pub nodes : 3 * length l ≤ length m.nodes
  pub groups : all_settings (grammar b) l ≤ length m.groups
  pub ranks : (i : ℕ) → i < length l → (plausible_rank m.nodes i < 2 ^ 8) × (feasible_rank m.nodes i < 2 ^ 8)
  pub entries : (i : ℕ) → i < length l → down_entry_of m.nodes i < down_room

-- what a step that may be refused comes to, where a text is due: the text is printed, or it is the refusal's
abbrev pub PrintedOrRefused : (List ℕ → Type 0) → Result (Unit {0}) Refused → List ℕ → Type 0
PrintedOrRefused Due (Ok done) text = Due text
PrintedOrRefused Due (Err r) text = Due (refusal (number_of r.refusal) r.place)
