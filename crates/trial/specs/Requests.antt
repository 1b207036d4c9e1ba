-- A request: a byte for the call, then its arguments, each as four bytes of length and the bytes themselves.
use Rattle.std.specs.Prelude.{ℕ, ◌+◌, ◌*◌, ◌≤◌, ◌≡◌, List, length, drop}
use Rattle.lists.specs.Part.{part}
use Rattle.trial.specs.Numbers.{four}

-- An argument stands at the head of what is left of a request: its bytes lie within and are whole elements of so many bytes, with room for all.
pub record Argument (left : List ℕ) (width room : ℕ) (argument behind : List ℕ) : Type 0 where
  pub within : 4 + four left 0 ≤ length left
  pub begins : argument ≡ part 4 (four left 0) left
  pub ends : behind ≡ drop (4 + four left 0) left
  pub many : ℕ
  pub whole : four left 0 ≡ many * width
  pub fits : many ≤ room

-- none stands there
abbrev pub NoArgument : (left : List ℕ) (width room : ℕ) → Type 0
NoArgument left width room = (argument behind : List ℕ) → Argument left width room argument behind → ⊥
