-- A number carried into a rising part of a longer list.
use Rattle.std.specs.Prelude.{◌≡◌, Bool, true, false, List, ℕ, ◌+◌, length}
use Rattle.lists.specs.Part.{part, place}
use Rattle.lists.specs.Rising.{insert}

abbrev pub one : Bool → ℕ
one true = 1
one false = 0

-- of s, the n elements from base on have taken x in, which gives s'; r: whether there is one more of them
pub record Inserted (base n x : ℕ) (s s' : List ℕ) (r : Bool) : Type 0 where
  pub held : s' ≡ place base (insert x (part base n s)) s
  pub more : length (insert x (part base n s)) ≡ n + one r
