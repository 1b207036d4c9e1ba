-- What the sets of all kinds hold once they are built, or that they cannot.
use Rattle.std.specs.Prelude.{◌≡◌, ◌↔◌, ℕ, suc, ◌*◌, ◌≤◌, ◌<◌, length, get_or}
use mathlib.Core.List.{List, Memᴰ}
use Rattle.lists.specs.Rising.{Rising}
use Rattle.chains.specs.Limits.{max_members}
use Rattle.members.specs.Sets.{members, Has, member}

-- one more different numbers than a set can hold have P for one of the first n kinds
pub record Over (n : ℕ) (P : ℕ → ℕ → Type 0) : Type 0 where
  pub kind : ℕ
  pub below : kind < n
  pub list : List ℕ
  pub rising : Rising list
  pub many : length list ≡ suc max_members
  pub all : (x : ℕ) → Memᴰ x list → P kind x

-- s and c hold, for each of the first n kinds, exactly what has P: rising, zeros behind; beyond these kinds they are as s₀ and c₀
pub record Holds (n : ℕ) (P : ℕ → ℕ → Type 0) (s₀ c₀ s c : List ℕ) : Type 0 where
  pub long : length s ≡ length s₀
  pub long_c : length c ≡ length c₀
  pub few : (k : ℕ) → k < n → get_or c k 0 ≤ max_members
  pub rising : (k : ℕ) → k < n → Rising (members s c k)
  pub exactly : (k x : ℕ) → k < n → Has s c k x ↔ P k x
  pub blank : (k i : ℕ) → k < n → get_or c k 0 ≤ i → i < max_members → member s k i ≡ 0
  pub beyond : (i : ℕ) → n * max_members ≤ i → get_or s i 0 ≡ get_or s₀ i 0
  pub beyond_c : (k : ℕ) → n ≤ k → get_or c k 0 ≡ get_or c₀ k 0
