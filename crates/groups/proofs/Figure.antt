-- The paper's run, whole: what is printed of the article's Fig. 1 with the sheet 0 1 3 is the paper's text.
use mathlib.Core.Path.{◌≡◌, refl}
use mathlib.Core.List.{List, [], ◌∷◌, ◌++◌}
use Prim.Native.Nat.{ℕ}
use Rattle.lists.specs.Refusals.{accepted}
use Rattle.book.specs.Format.{entry}
use Rattle.sheet.specs.Reading.{all_settings}
use Rattle.numbering.specs.Promise.{lent}
use Rattle.text.specs.Decimals.{spelt}
use Rattle.groups.specs.Printed.{numbers, lines, printed}

pub figure : List ℕ
figure = 2 ∷ 0 ∷ 4 ∷ 5 ∷ 4 ∷ 5 ∷ 0 ∷ 1 ∷ 1 ∷ 2 ∷ 0 ∷ 9 ∷ 1 ∷ 11 ∷ 1 ∷ 1 ∷ 2 ∷ 4 ∷ 1 ∷ 9 ∷ 3 ∷ 11 ∷ 8 ∷ 0 ∷ 10 ∷ 2 ∷ 1 ∷ 1 ∷ 2 ∷ 5 ∷ 1 ∷ 9 ∷ 3 ∷ 9 ∷ 3 ∷ 11 ∷ 8 ∷ 0 ∷ 10 ∷ 2 ∷ 2 ∷ 0 ∷ 2 ∷ 1 ∷ 0 ∷ 3 ∷ 2 ∷ 2 ∷ 0 ∷ 2 ∷ 1 ∷ 2 ∷ 3 ∷ 0 ∷ 1 ∷ 0 ∷ 3 ∷ 0 ∷ 5 ∷ 0 ∷ 0 ∷ 0 ∷ 54 ∷ 0 ∷ 48 ∷ 0 ∷ []

-- ok 3 10 2 / 0 0 1 1 5 0 1 / 1 1 2 2 11 0 0 1 1 / 2 3 1 2 20 0 0 1 1
pub text : List ℕ
text =
    (111 ∷ 107 ∷ 32 ∷ 51 ∷ 32 ∷ 49 ∷ 48 ∷ 32 ∷ 50 ∷ 10 ∷ [])
    ++ (48 ∷ 32 ∷ 48 ∷ 32 ∷ 49 ∷ 32 ∷ 49 ∷ 32 ∷ 53 ∷ 32 ∷ 48 ∷ 32 ∷ 49 ∷ 10 ∷ [])
    ++ (49 ∷ 32 ∷ 49 ∷ 32 ∷ 50 ∷ 32 ∷ 50 ∷ 32 ∷ 49 ∷ 49 ∷ 32 ∷ 48 ∷ 32 ∷ 48 ∷ 32 ∷ 49 ∷ 32 ∷ 49 ∷ 10 ∷ [])
    ++ (50 ∷ 32 ∷ 51 ∷ 32 ∷ 49 ∷ 32 ∷ 50 ∷ 32 ∷ 50 ∷ 48 ∷ 32 ∷ 48 ∷ 32 ∷ 48 ∷ 32 ∷ 49 ∷ 32 ∷ 49 ∷ 10 ∷ [])

pub figure_printed : printed figure (0 ∷ 1 ∷ 3 ∷ []) (accepted (3 ∷ 10 ∷ 2 ∷ [])) (lent (1 ∷ 1 ∷ 5 ∷ 2 ∷ 2 ∷ 11 ∷ 1 ∷ 2 ∷ 20 ∷ []) (0 ∷ 1 ∷ 0 ∷ 0 ∷ 1 ∷ 1 ∷ 0 ∷ 0 ∷ 1 ∷ 1 ∷ [])) ≡ text
unfolding figure text numbers lines all_settings entry spelt
figure_printed = refl
