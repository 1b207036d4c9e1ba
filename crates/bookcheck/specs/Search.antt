-- What the parts of the check answer: a test says whether something holds, a search finds the first place where it does.
use Rattle.std.specs.Prelude.{◌≡◌, Bool, true, false, List, ℕ, ◌+◌, ◌≤◌, ◌<◌, length, get_or}
use Rattle.lists.specs.Sought.{Free}
use Rattle.lists.specs.Refusals.{Sooner}
use Rattle.chains.specs.Limits.{max_kinds}
use Rattle.chains.specs.Grammar.{Grammar, Exists, Target, order}
use Rattle.book.specs.Format.{Known, kinds, prods, start, trailer, left_at, kids_at, pairs_at, bytes_at, ties_of, next_at, entry, Laid, grammar}
use Rattle.book.specs.Reading.{pair_at}
use Rattle.bookcheck.specs.Refusals.{OutOfRange, BadKids, BadTies}
use Rattle.bookcheck.specs.declared.walk.Row.{Row}
use Rattle.bookcheck.specs.declared.walk.Row.TheVariants.{Kids, Ties}

pub record Tells (P : Type 0) (r : Bool) : Type 0 where
  pub holds : r ≡ true → P
  pub fails : r ≡ false → P → ⊥

-- the first place below n that has P, or n where none has
pub record Finds (P : ℕ → Type 0) (n r : ℕ) : Type 0 where
  pub within : r ≤ n
  pub has : r < n → P r
  pub passed : Free P r

-- the book's grammar as far as the one entry at the place at shows it: that entry is its only production
abbrev pub alone : List ℕ → ℕ → Grammar
alone b at = record {
  kinds = kinds b;
  prods = 1;
  start = start b;
  settings = (grammar b).settings;
  inherits = (grammar b).inherits;
  left = λ p. left_at b at;
  kids = λ p. kids_at b at;
  ties = λ p. ties_of (bytes_at b at);
}

-- the two refusals that are sought entry by entry, 6 and 7
abbrev pub Bad : Row → Grammar → ℕ → Type 0
Bad Kids = BadKids
Bad Ties = BadTies

-- pair i of the entry at `at` names two occurrences, and the first may be worked out
abbrev pub Fair : List ℕ → ℕ → ℕ → Type 0
Fair b at i = Exists (alone b at) 0 (pair_at b at i).0 × Exists (alone b at) 0 (pair_at b at i).1 × Target (alone b at) 0 (pair_at b at i).0

-- it is the last, or a greater one follows
abbrev pub Climbs : List ℕ → ℕ → ℕ → Type 0
Climbs b at i = i + 1 < pairs_at b at → Sooner (order (pair_at b at i)) (order (pair_at b at (i + 1)))

-- n and first are what the trailer of a book that is laid out tells
pub record TrailerTold (b : List ℕ) (n first : ℕ) : Type 0 where
  pub laid : Laid b
  pub kinds_told : n ≡ kinds b
  pub start_told : first ≡ start b

-- an entry that ends before the trailer
pub record Stands (b : List ℕ) (at : ℕ) : Type 0 where
  pub laid : Laid b
  pub inside : next_at b at ≤ trailer b

-- m is the number of productions, and each has a left kind that a mark can be made for
pub record Markable (b : List ℕ) (m : ℕ) : Type 0 where
  pub laid : Laid b
  pub prods_told : m ≡ prods b
  pub low : (p : ℕ) → p < prods b → left_at b (entry b p) < max_kinds

-- marks are 0 exactly at the kinds that are left kind of none of the first m productions
pub record Marks (b : List ℕ) (m : ℕ) (marks : List ℕ) : Type 0 where
  pub long : length marks ≡ max_kinds
  pub blank : (k p : ℕ) → k < max_kinds → get_or marks k 0 ≡ 0 → p < m → left_at b (entry b p) ≡ k → ⊥
  pub made : (k : ℕ) → k < max_kinds → (get_or marks k 0 ≡ 0 → ⊥) → (p : ℕ) × (p < m) × (left_at b (entry b p) ≡ k)

-- what refusals 1 to 4 leave, with the trailer's three numbers
pub record Opened (b : List ℕ) (n m first : ℕ) : Type 0 where
  pub known : Known b
  pub in_range : OutOfRange b → ⊥
  pub told : TrailerTold b n first
  pub prods_told : m ≡ prods b
