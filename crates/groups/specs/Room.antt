-- The program's rooms: for 8,192 up entries, 1,489 down entries and 2,730 nodes. All memory that it lends is zero at first.
use Rattle.std.specs.Prelude.{ℕ, ◌+◌, ◌*◌, List, replicate}
use Rattle.chains.specs.Limits.{max_kinds, max_members, max_prods, max_kids, max_settings, max_nodes}
use Rattle.book.specs.Format.{trailer_bytes}
use Rattle.ranks.specs.Entries.{entry_bytes}
use Rattle.tables.specs.Promise as tables
use Rattle.tables.specs.Answer as tables_answer
use Rattle.numbering.specs.Promise as numbering

abbrev pub up_room : ℕ
up_room = 8192

abbrev pub down_room : ℕ
down_room = 1489

abbrev pub node_room : ℕ
node_room = 2730

-- the largest book: kind entries of two bytes, production entries with four children and 255 pairs, the trailer
abbrev pub most_book : ℕ
most_book = 2 * max_kinds + max_prods * (3 + max_kids + 2 * 255) + trailer_bytes

-- the largest input: the sheet's length, a sheet, a book
abbrev pub most_input : ℕ
most_input = 2 + max_nodes + most_book

abbrev pub zeroed : ℕ → List ℕ
zeroed n = replicate n 0

-- what the build is lent: sets and counts for every kind that a book can have, and the two tables
abbrev pub build_room : tables.Lent
build_room = tables_answer.lent (zeroed (max_members * max_kinds)) (zeroed max_kinds) (zeroed (max_members * max_kinds)) (zeroed max_kinds) (zeroed up_room)
    (zeroed (entry_bytes * down_room))

-- what the sheet call is lent: three places for each node, and as many group numbers as its kind can have settings
abbrev pub sheet_room : numbering.Lent
sheet_room = numbering.lent (zeroed (3 * node_room)) (zeroed (max_settings * node_room))
