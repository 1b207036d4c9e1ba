-- A block of a down entry: the occurrences that carry one label, as a 64-bit set, bit o for occurrence o.
use Rattle.std.specs.Prelude.{◌≡◌, ◌⊎◌, ◌↔◌, ℕ, ◌+◌, ◌*◌, ◌/◌, ◌%◌, ◌^◌, ◌≤◌, ◌<◌, length}
use mathlib.Core.List.{List, Memᴰ}
use Rattle.lists.specs.Rising.{Rising}
use Rattle.lists.specs.Sought.{Free, Least}
use Rattle.ranks.specs.Entries.{labels, entry_bytes, none}
use Rattle.ranks.specs.Reads.{label_at}

-- the bits of a set
abbrev pub set_bits : ℕ
set_bits = 64

-- bit o of the set is 1
abbrev pub In : ℕ → ℕ → Type 0
In set o = set / 2 ^ o % 2 ≡ 1

-- occurrence o carries the label x in the down entry e, which lies whole within its slice; none is nobody's label
pub record Carries (down : List ℕ) (e x o : ℕ) : Type 0 where
  pub whole : (e + 1) * entry_bytes ≤ length down
  pub labelled : x ≡ none → ⊥
  pub occurs : o < labels
  pub same : label_at down e o ≡ x

-- THE PROMISE of a label's occurrences: bit o is 1 exactly where occurrence o carries it
abbrev pub Block : List ℕ → ℕ → ℕ → ℕ → Type 0
Block down e x set = (o : ℕ) → In set o ↔ Carries down e x o

-- THE PROMISE of a set's size: so many are in it
pub record Size (set n : ℕ) : Type 0 where
  pub members : List ℕ
  pub rising : Rising members
  pub exactly : (o : ℕ) → Memᴰ o members ↔ In set o
  pub many : length members ≡ n

-- THE PROMISE of a set's first occurrence: the least that is in it, or 64 where none is
abbrev pub FirstIn : ℕ → ℕ → Type 0
FirstIn set i = Least (In set) set_bits i ⊎ ((i ≡ set_bits) × Free (In set) set_bits)
