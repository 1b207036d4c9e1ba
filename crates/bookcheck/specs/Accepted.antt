-- An accepted book: what its check's acceptance says of it, and what the calls on it may lean on.
use Rattle.std.specs.Prelude.{List, ℕ, ◌≤◌}
use Rattle.chains.specs.Limits.{max_kinds, max_prods}
use Rattle.chains.specs.Grammar.{Lawful}
use Rattle.book.specs.Format.{Known, kinds, prods, Laid, grammar}

pub record Accepted (b : List ℕ) : Type 0 where
  pub known : Known b
  pub some_kinds : 1 ≤ kinds b
  pub few_kinds : kinds b ≤ max_kinds
  pub some_prods : 1 ≤ prods b
  pub few_prods : prods b ≤ max_prods
  pub laid : Laid b
  pub lawful : Lawful (grammar b)
