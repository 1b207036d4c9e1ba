-- Lists that rise strictly, and a number carried to its place in one.
use Rattle.std.specs.Prelude.{List, [], ◌∷◌, ℕ, ◌<◌, ltb, eqb}
use Rattle.lists.specs.Pick.{pick}

pub data Rising : List ℕ → Type 0 where
  none : Rising []
  single : {x : ℕ} → Rising (x ∷ [])
  step : {x y : ℕ} {ys : List ℕ} → x < y → Rising (y ∷ ys) → Rising (x ∷ y ∷ ys)

-- x carried into a rising list: where it stands already, nothing changes
unfoldable pub insert : ℕ → List ℕ → List ℕ
insert x [] = x ∷ []
insert x (y ∷ ys) = pick (eqb x y) (y ∷ ys) (pick (ltb x y) (x ∷ insert y ys) (y ∷ insert x ys))
