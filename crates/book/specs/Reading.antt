-- What the accessors answer, of any bytes whatever: 0 where what is asked for is not there.
-- Of an accepted book these are the fields of its grammar.
use Rattle.std.specs.Prelude.{◌≡◌, List, ℕ, ◌+◌, ◌-◌, ◌*◌, ◌<◌, ltb, eqb, length, get_or}
use Rattle.lists.specs.Pick.{pick}
use Rattle.chains.specs.Limits.{max_prods}
use Rattle.chains.specs.Grammar.{Tie}
use Rattle.book.specs.Format.{trailer_bytes, field, left_at, pair_place, next_at, entry, occ}

-- the i-th field of the trailer, where there is a trailer
abbrev pub told : List ℕ → ℕ → ℕ
told b i = pick (ltb (length b) trailer_bytes) 0 (field b i)

-- the kind entries stand at the front, two bytes each
abbrev pub settings_of : List ℕ → ℕ → ℕ
settings_of b k = get_or b (2 * k) 0

abbrev pub mask_of : List ℕ → ℕ → ℕ
mask_of b k = get_or b (2 * k + 1) 0

-- of the production entry at the place at: child j, and the two ends of pair i
abbrev pub kid_at : List ℕ → ℕ → ℕ → ℕ
kid_at b at j = get_or b (at + 2 + j) 0

abbrev pub to_at : List ℕ → ℕ → ℕ → ℕ
to_at b at i = get_or b (pair_place b at i) 0

abbrev pub from_at : List ℕ → ℕ → ℕ → ℕ
from_at b at i = get_or b (pair_place b at i + 1) 0

abbrev pub pair_at : List ℕ → ℕ → ℕ → Tie
pair_at b at i = (occ (to_at b at i), occ (from_at b at i))

-- the kind of its slot s: 0 is the left kind, then the children
abbrev pub kind_in : List ℕ → ℕ → ℕ → ℕ
kind_in b at s = pick (eqb s 0) (left_at b at) (kid_at b at (s - 1))

-- the place of the entry after it; past the book there is none
abbrev pub following : List ℕ → ℕ → ℕ
following b at = pick (ltb at (length b)) (next_at b at) 0

-- the places of the entries, in order: each production's that the trailer counts, then 0
pub record Index (b places : List ℕ) : Type 0 where
  pub long : length places ≡ max_prods
  pub each : (p : ℕ) → p < max_prods → get_or places p 0 ≡ pick (ltb p (told b 2)) (entry b p) 0
