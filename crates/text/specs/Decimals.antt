-- A number as text: its decimal digits, without leading zeros.
use Rattle.std.specs.Prelude.{ℕ, zero, suc, ◌/◌, ◌%◌, List, [], ◌∷◌, ◌++◌, ltb}
use Rattle.lists.specs.Pick.{pick}
use Rattle.io.specs.Digits.{hex_digit_ascii}

-- a number below ten is its digit; any other its tenth, and then its last digit. f is as many steps as are allowed
unfoldable pub spelt : ℕ → ℕ → List ℕ
spelt zero n = hex_digit_ascii (n % 10) ∷ []
spelt (suc f) n = pick (ltb n 10) (hex_digit_ascii n ∷ []) (spelt f (n / 10) ++ hex_digit_ascii (n % 10) ∷ [])

-- no number needs more steps than it counts
abbrev pub decimals : ℕ → List ℕ
decimals n = spelt n n
