-- Counts and ranks for as many children as a production may have: past its last child the count is 1 and the rank 0.
use Rattle.std.specs.Prelude.{◌≡◌, List, ℕ, ◌≤◌, ◌<◌, length, get_or}

-- ns has the counts of the kinds ks, then 1, up to n of them
pub record CountsPadded (n : ℕ) (c ks ns : List ℕ) : Type 0 where
  pub few : length ks ≤ n
  pub counts : (j : ℕ) → j < length ks → get_or ns j 0 ≡ get_or c (get_or ks j 0) 0
  pub ones : (j : ℕ) → length ks ≤ j → j < n → get_or ns j 0 ≡ 1

-- ms is rs, then 0, up to n of them
pub record RanksPadded (n : ℕ) (rs ms : List ℕ) : Type 0 where
  pub long : length ms ≡ n
  pub same : (j : ℕ) → j < n → get_or ms j 0 ≡ get_or rs j 0
