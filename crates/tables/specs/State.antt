-- A state: a label for each occurrence number of a production, while its groups are worked out. Two occurrences stand in one group where their
-- labels are equal; an occurrence that does not exist, or that was dropped, has none.
use Rattle.std.specs.Prelude.{◌≡◌, ◌⊎◌, ◌↔◌, List, [], ◌∷◌, ℕ, ◌+◌, ◌*◌, ◌/◌, ◌%◌, ◌≤◌, ◌<◌, eqb, ltb, length, get_or}
use Rattle.lists.specs.Pick.{pick}
use Rattle.chains.specs.Limits.{max_settings}
use Rattle.chains.specs.Chain.{Eqv}
use Rattle.chains.specs.Grouping.{label}
use Rattle.chains.specs.Labels as labelling
use Rattle.chains.specs.State.{numbers}
use Rattle.book.specs.Format.{arity_at, pairs_at, bytes_at, next_at, ties_of}
use Rattle.book.specs.Reading.{settings_of, kind_in, to_at, from_at}
use Rattle.ranks.specs.Entries.{labels, none}

-- o is there
abbrev pub Present : List ℕ → ℕ → Type 0
Present s o = get_or s o none < none

-- o and o' are there, in one group
abbrev pub Same : List ℕ → ℕ → ℕ → Type 0
Same s o o' = Present s o × Present s o' × (get_or s o none ≡ get_or s o' none)

-- x is a label, or none
abbrev pub Low : ℕ → Type 0
Low x = (x < labels) ⊎ (x ≡ none)

pub record State (s : List ℕ) : Type 0 where
  pub long : length s ≡ labels
  pub low : (o : ℕ) → Low (get_or s o none)

-- the number of setting a in slot t
abbrev pub spot : ℕ → ℕ → ℕ
spot t a = t * max_settings + a

-- the first a settings of slot t are there
abbrev pub Whole : List ℕ → ℕ → ℕ → Type 0
Whole s t a = (x : ℕ) → x < a → Present s (spot t x)

-- s' has the occurrences that s has, and in one group what chains of s's groups and of R lead to
pub record Joined (s : List ℕ) (R : ℕ → ℕ → Type 0) (s' : List ℕ) : Type 0 where
  pub state : State s'
  pub present : (o : ℕ) → Present s' o ↔ Present s o
  pub same : (o o' : ℕ) → Present s o → Present s o' → Same s' o o' ↔ Eqv (λ x y. Same s x y ⊎ R x y) o o'

-- what the code c puts into one group among the first a settings of slot t
abbrev pub Grouped : ℕ → ℕ → ℕ → ℕ → ℕ → Type 0
Grouped t a c x y = (i : ℕ) × (j : ℕ) × (i < a) × (j < a) × (x ≡ spot t i) × (y ≡ spot t j) × (label c i ≡ label c j)

-- ── a production's own occurrences and pairs, off the entry at the place at of the book b ──
-- the number of settings in slot t
abbrev pub width_in : List ℕ → ℕ → ℕ → ℕ
width_in b at t = pick (ltb (arity_at b at) t) 0 (settings_of b (kind_in b at t))

-- an occurrence that exists has its own number, the others none
abbrev pub own : List ℕ → ℕ → ℕ → ℕ
own b at o = pick (ltb (o % max_settings) (width_in b at (o / max_settings))) o none

-- every occurrence by itself
abbrev pub apart : List ℕ → ℕ → List ℕ
apart b at = labelling.labels_by (own b at) 0 labels

-- the ends of each pair joined
unfoldable pub based : List ℕ → ℕ → List ℕ
based b at = labelling.joins (apart b at) (numbers (ties_of (bytes_at b at)))

-- the entry is whole, and its pairs name occurrence numbers
pub record Readable (b : List ℕ) (at : ℕ) : Type 0 where
  pub room : next_at b at ≤ length b
  pub low : (i : ℕ) → i < pairs_at b at → (to_at b at i < labels) × (from_at b at i < labels)

-- ── labels by first appearance, those of `seen` having appeared already; none stays ──
unfoldable pub tidy_from : List ℕ → List ℕ → List ℕ
tidy_from seen [] = []
tidy_from seen (x ∷ l) = pick (eqb x none) (none ∷ tidy_from seen l) (labelling.index x seen ∷ tidy_from (labelling.add x seen) l)

abbrev pub tidied : List ℕ → List ℕ
tidied s = tidy_from [] s

-- the labels that have been given a number, in order, off the table t of the numbers and the next one
abbrev pub numbered : List ℕ → ℕ → List ℕ
numbered t n = labelling.labels_by (λ k. labelling.index k t) 0 n

-- each label that stands in the table has its place among them there, and the others have none
pub record Numbering (t : List ℕ) (n : ℕ) : Type 0 where
  pub long : length t ≡ labels
  pub has : (x : ℕ) → x < labels → labelling.index x (numbered t n) < n → get_or t x 0 ≡ labelling.index x (numbered t n)
  pub lacks : (x : ℕ) → x < labels → n ≤ labelling.index x (numbered t n) → get_or t x 0 ≡ none
