-- An answer as one number: 0 where all is accepted, else the refusal's number times 65,536 plus its place.
use Rattle.std.specs.Prelude.{◌≡◌, ℕ, ◌+◌, ◌*◌, ◌<◌}
use Rattle.lists.specs.Refusals.{Said, accepted, refused}

abbrev pub word : Said → ℕ
word (accepted counts) = 0
word (refused number place) = number * 65536 + place

-- a place that leaves the number as it is
abbrev pub Narrow : Said → Type 0
Narrow (accepted counts) = Unit {0}
Narrow (refused number place) = place < 65536

-- THE PROMISE of an exported check: w is the word of what is due
pub record Spoken (Due : Said → Type 0) (w : ℕ) : Type 0 where
  pub said : Said
  pub due : Due said
  pub narrow : Narrow said
  pub is : w ≡ word said
