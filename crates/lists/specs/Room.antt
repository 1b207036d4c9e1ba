-- What is left of the places of several sets, cap places each, whose counts are given.
use Rattle.std.specs.Prelude.{List, [], ◌∷◌, ℕ, ◌+◌, ◌-◌}

unfoldable pub room : ℕ → List ℕ → ℕ
room cap [] = 0
room cap (c ∷ cs) = (cap - c) + room cap cs
