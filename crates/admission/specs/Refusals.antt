-- Refusals 9 and 24 of a sheet call, among 1 to 8 of its book and 20 to 23 of its sheet: what it is refused before a table is read, by book, sheet and lengths alone.
use Rattle.std.specs.Prelude.{◌⊎◌, List, [], ◌∷◌, ℕ, ◌*◌, ◌<◌, ltb, length}
use Rattle.lists.specs.Pick.{pick}
use Rattle.lists.specs.Refusals.{Said, Due}
use Rattle.book.specs.Format.{kinds, grammar}
use Rattle.sheet.specs.Reading.{all_settings}
use Rattle.sheet.specs.Refusals as sheet
use Rattle.admission.specs.declared.Lengths.{Lengths}

-- the four lengths together
abbrev pub lengths : ℕ → ℕ → ℕ → ℕ → Lengths
lengths c d n g = record { plausible_counts = c; feasible_counts = d; nodes = n; groups = g }

-- a count slice has no place for every kind
abbrev pub ShortCounts : List ℕ → ℕ → ℕ → Type 0
ShortCounts b c d = (c < kinds b) ⊎ (d < kinds b)

-- the node slice is shorter than three places per node, or the group slice than the settings
abbrev pub ShortRoom : List ℕ → List ℕ → ℕ → ℕ → Type 0
ShortRoom b l n g = (n < 3 * length l) ⊎ (g < all_settings (grammar b) l)

-- Applies b l m n p: refusal n has its condition met at the place p
pub data Applies (b l : List ℕ) (m : Lengths) : ℕ → ℕ → Type 0 where
  of_sheet : {n p : ℕ} → sheet.Applies b l n p → Applies b l m n p
  short_counts : ShortCounts b m.plausible_counts m.feasible_counts → Applies b l m 9 0
  short_room : ShortRoom b l m.nodes m.groups → Applies b l m 24 0

-- rows go by number, but 21 to 23 are sought together
abbrev pub stage : ℕ → ℕ
stage n = pick (ltb n 21) n (pick (ltb n 24) 21 n)

-- within a stage by place, then by number
abbrev pub turn : (ℕ × ℕ) → List ℕ
turn f = stage f.0 ∷ f.1 ∷ f.0 ∷ []

-- THE PROMISE of the admission: what it says of the sheet l against the book b with slices of these lengths; its counts are nodes and settings
abbrev pub AdmissionDue : List ℕ → List ℕ → Lengths → Said → Type 0
AdmissionDue b l m = Due turn (λ f. f.0) (λ f. f.1) (λ f. Applies b l m f.0 f.1) (length l ∷ all_settings (grammar b) l ∷ [])
