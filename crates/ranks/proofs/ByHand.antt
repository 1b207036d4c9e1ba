-- The numbers of entries of productions with unlike children, worked out by hand: child 1's rank counts most, the last child's least.
-- Nothing cites these laws: they hold the definitions to what is meant. They are the first that a wrong definition runs into, whatever code goes with it.
use mathlib.Core.Path.{◌≡◌, refl}
use mathlib.Core.Bool.{false}
use mathlib.Core.List.{List, [], ◌∷◌}
use Prim.Native.Nat.{ℕ, zero, suc}
use Rattle.chains.specs.Grammar.{Grammar}
use Rattle.ranks.specs.Entries.{choices, choice, up_start, up_entry, down_start, down_entry}
use Rattle.ranks.specs.Reads.{from, up_number, down_number}

-- kinds 0 to 3 have 1, 2, 3 and 4 plausible groupings, and 2, 3, 1 and 1 feasible ones
abbrev counts : List ℕ
counts = 1 ∷ 2 ∷ 3 ∷ 4 ∷ []

abbrev feasible_counts : List ℕ
feasible_counts = 2 ∷ 3 ∷ 1 ∷ 1 ∷ []

-- ── choices ──
-- children of counts 2 and 3: all six choices, in order
pub two_children : (choice counts (1 ∷ 2 ∷ []) (0 ∷ 0 ∷ []) ≡ 0)
    × (choice counts (1 ∷ 2 ∷ []) (0 ∷ 1 ∷ []) ≡ 1)
    × (choice counts (1 ∷ 2 ∷ []) (0 ∷ 2 ∷ []) ≡ 2)
    × (choice counts (1 ∷ 2 ∷ []) (1 ∷ 0 ∷ []) ≡ 3)
    × (choice counts (1 ∷ 2 ∷ []) (1 ∷ 1 ∷ []) ≡ 4)
    × (choice counts (1 ∷ 2 ∷ []) (1 ∷ 2 ∷ []) ≡ 5)
    × (choices counts (1 ∷ 2 ∷ []) ≡ 6)
unfolding choices choice
two_children = (refl, refl, refl, refl, refl, refl, refl)

-- children of counts 4, 2 and 3: a rank of the first is worth 6, of the second 3, of the third 1
pub three_children : (choice counts (3 ∷ 1 ∷ 2 ∷ []) (0 ∷ 0 ∷ 2 ∷ []) ≡ 2)
    × (choice counts (3 ∷ 1 ∷ 2 ∷ []) (0 ∷ 1 ∷ 0 ∷ []) ≡ 3)
    × (choice counts (3 ∷ 1 ∷ 2 ∷ []) (0 ∷ 1 ∷ 2 ∷ []) ≡ 5)
    × (choice counts (3 ∷ 1 ∷ 2 ∷ []) (1 ∷ 0 ∷ 0 ∷ []) ≡ 6)
    × (choice counts (3 ∷ 1 ∷ 2 ∷ []) (2 ∷ 1 ∷ 1 ∷ []) ≡ 16)
    × (choice counts (3 ∷ 1 ∷ 2 ∷ []) (3 ∷ 1 ∷ 2 ∷ []) ≡ 23)
    × (choices counts (3 ∷ 1 ∷ 2 ∷ []) ≡ 24)
unfolding choices choice
three_children = (refl, refl, refl, refl, refl, refl, refl)

-- ── entries of two productions ──
abbrev two_kids : ℕ → List ℕ
two_kids zero = 1 ∷ 2 ∷ []
two_kids (suc p) = 3 ∷ 1 ∷ 2 ∷ []

-- production 0 makes kind 0 of kinds 1 and 2; production 1 makes kind 1 of kinds 3, 1 and 2
abbrev two_productions : Grammar
two_productions =
    record { kinds = 4; prods = 2; start = 0; settings = λ k. 1; inherits = λ k i. false; left = λ p. p; kids = two_kids; ties = λ p. [] }

-- up: six entries of production 0, then twenty-four of production 1
pub up_entries : (up_entry two_productions counts 0 (0 ∷ 2 ∷ []) ≡ 2)
    × (up_entry two_productions counts 0 (1 ∷ 0 ∷ []) ≡ 3)
    × (up_entry two_productions counts 1 (0 ∷ 0 ∷ 0 ∷ []) ≡ 6)
    × (up_entry two_productions counts 1 (2 ∷ 1 ∷ 1 ∷ []) ≡ 22)
    × (up_entry two_productions counts 1 (3 ∷ 1 ∷ 2 ∷ []) ≡ 29)
    × (up_start two_productions counts 2 ≡ 30)
unfolding choices choice up_start
up_entries = (refl, refl, refl, refl, refl, refl)

-- down: the feasible rank counts more than all children's, so twice six entries of production 0, then three times twenty-four of production 1
pub down_entries : (down_entry two_productions counts feasible_counts 0 0 (1 ∷ 2 ∷ []) ≡ 5)
    × (down_entry two_productions counts feasible_counts 0 1 (0 ∷ 2 ∷ []) ≡ 8)
    × (down_entry two_productions counts feasible_counts 0 1 (1 ∷ 0 ∷ []) ≡ 9)
    × (down_entry two_productions counts feasible_counts 1 0 (0 ∷ 0 ∷ 0 ∷ []) ≡ 12)
    × (down_entry two_productions counts feasible_counts 1 2 (2 ∷ 1 ∷ 1 ∷ []) ≡ 76)
    × (down_entry two_productions counts feasible_counts 1 2 (3 ∷ 1 ∷ 2 ∷ []) ≡ 83)
    × (down_start two_productions counts feasible_counts 2 ≡ 84)
unfolding choices choice down_start
down_entries = (refl, refl, refl, refl, refl, refl, refl)

-- ── as the reads take them, a count of 1 and a rank of 0 past the last child ──
pub numbers_read : (up_number 6 (4 ∷ 2 ∷ 3 ∷ 1 ∷ []) (2 ∷ 1 ∷ 1 ∷ 0 ∷ []) ≡ 22) × (down_number 12 (4 ∷ 2 ∷ 3 ∷ 1 ∷ []) 2 (2 ∷ 1 ∷ 1 ∷ 0 ∷ []) ≡ 76)
unfolding choices choice from
numbers_read = (refl, refl)
