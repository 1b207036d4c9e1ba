-- Numbers in bytes, the lowest first, and lists of them as they stand in a request.
use Rattle.std.specs.Prelude.{ℕ, ◌+◌, ◌*◌, ◌/◌, ◌≤◌, ◌<◌, min, ◌≡◌, List, length, get_or}

-- the number of one, two, four or eight bytes at a place
abbrev pub one : List ℕ → ℕ → ℕ
one s at = get_or s at 0

abbrev pub two : List ℕ → ℕ → ℕ
two s at = one s at + 256 * one s (at + 1)

abbrev pub four : List ℕ → ℕ → ℕ
four s at = two s at + 65536 * two s (at + 2)

abbrev pub eight : List ℕ → ℕ → ℕ
eight s at = four s at + 4294967296 * four s (at + 4)

-- The first n elements of a list are the numbers of so many bytes each that stand in s, the others as they came.
pub record Copied {A : Type 0} (number : List ℕ → ℕ → A) (width : ℕ) (s : List ℕ) (l : List A) (n : ℕ) (l' : List A) : Type 0 where
  pub taken : (k : ℕ) → k < n → (d : A) → get_or l' k d ≡ number s (width * k)
  pub kept : (k : ℕ) → n ≤ k → (d : A) → get_or l' k d ≡ get_or l k d
  pub long : length l' ≡ length l

-- as many as are there and have room
abbrev pub many : {A : Type 0} → ℕ → List ℕ → List A → ℕ
many width s l = min (length s / width) (length l)
