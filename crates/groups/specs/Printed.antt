-- What the program prints: text, as bytes.
use Rattle.std.specs.Prelude.{ℕ, zero, suc, List, [], ◌∷◌, ◌++◌, length, get_or, take}
use Rattle.lists.specs.Part.{part}
use Rattle.lists.specs.Refusals.{Said, accepted, refused}
use Rattle.chains.specs.Grammar.{Grammar}
use Rattle.book.specs.Format.{grammar}
use Rattle.sheet.specs.Reading.{all_settings}
use Rattle.numbering.specs.Promise.{Lent}
use Rattle.numbering.specs.Places.{plausible_rank, feasible_rank, down_entry_of}
use Rattle.text.specs.Decimals.{decimals}

-- `refused`, `ok`, a blank, the end of a line
abbrev pub word_refused : List ℕ
word_refused = 114 ∷ 101 ∷ 102 ∷ 117 ∷ 115 ∷ 101 ∷ 100 ∷ []

abbrev pub word_ok : List ℕ
word_ok = 111 ∷ 107 ∷ []

abbrev pub blank : ℕ
blank = 32

abbrev pub line_end : List ℕ
line_end = 10 ∷ []

-- numbers, a blank before each
unfoldable pub numbers : List ℕ → List ℕ
numbers [] = []
numbers (n ∷ ns) = blank ∷ (decimals n ++ numbers ns)

-- refused NUMBER PLACE
abbrev pub refusal : ℕ → ℕ → List ℕ
refusal n p = word_refused ++ numbers (n ∷ p ∷ []) ++ line_end

-- the first line: nodes, settings, groups
abbrev pub totals : List ℕ → List ℕ
totals counts = word_ok ++ numbers counts ++ line_end

-- a node's line: position, production, plausible rank, feasible rank, down entry, group numbers
abbrev pub line : (position production plausible feasible entry : ℕ) → List ℕ → List ℕ
line position production plausible feasible entry groups = decimals position ++ numbers (production ∷ plausible ∷ feasible ∷ entry ∷ groups) ++ line_end

-- the group numbers of node i's settings, which follow those of the nodes before it
abbrev pub own_groups : Grammar → List ℕ → Lent → ℕ → List ℕ
own_groups G l m i = part (all_settings G (take i l)) (G.settings (G.left (get_or l i 0))) m.groups

-- the line of node i of the sheet l, and those of its first n nodes
abbrev pub node_line : Grammar → List ℕ → Lent → ℕ → List ℕ
node_line G l m i = line i (get_or l i 0) (plausible_rank m.nodes i) (feasible_rank m.nodes i) (down_entry_of m.nodes i) (own_groups G l m i)

unfoldable pub lines : Grammar → List ℕ → Lent → ℕ → List ℕ
lines G l m zero = []
lines G l m (suc n) = lines G l m n ++ node_line G l m n

-- all that is printed of an answer
abbrev pub printed : List ℕ → List ℕ → Said → Lent → List ℕ
printed b l (accepted counts) m = totals counts ++ lines (grammar b) l m (length l)
printed b l (refused n p) m = refusal n p
