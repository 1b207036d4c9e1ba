-- What an accepted sheet is: the preorder list of a tree under the start.
use Rattle.std.specs.Prelude.{◌≡◌, List, [], ◌∷◌, ℕ, ◌≤◌, length}
use Rattle.chains.specs.Limits.{max_nodes, max_levels}
use Rattle.chains.specs.Grammar.{Grammar}
use Rattle.chains.specs.Tree.{Bush, flat, Kinded, Shallow}
use Rattle.book.specs.Format.{grammar}
use Rattle.bookcheck.specs.Refusals as book

-- no row of the book's table applies
abbrev pub Sound : List ℕ → Type 0
Sound b = (f : ℕ × ℕ) → book.Applies b f.0 f.1 → ⊥

-- a tree under the start, of at most 64 levels, with these bytes as its preorder list
pub record Drawn (G : Grammar) (l : List ℕ) (f : Bush) : Type 0 where
  pub kinded : Kinded G f (G.start ∷ [])
  pub shallow : Shallow max_levels f 1
  pub bytes : flat f ≡ l

-- the sheet l fits the book b
pub record Fits (b l : List ℕ) : Type 0 where
  pub sound : Sound b
  pub some : 1 ≤ length l
  pub few : length l ≤ max_nodes
  pub tree : Bush
  pub drawn : Drawn (grammar b) l tree
