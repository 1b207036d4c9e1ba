-- The steps of the upward pass over an accepted book.
use Rattle.std.specs.Prelude.{List, ℕ, length, get_or}
use Rattle.chains.specs.Plausible.{Plausible}
use Rattle.chains.specs.Steps.{StepUp}
use Rattle.book.specs.Format.{kinds, prods, grammar}
use Rattle.tables.specs.Shape.{Opened}
use Rattle.tables.specs.Sweep.{Steps}

-- production p has one step, for its left kind, and watches its children's kinds
abbrev pub up_steps : (b places : List ℕ) → Steps
up_steps b places = record {
  leans = Opened b places;
  kinds = kinds b;
  may = Plausible (grammar b);
  prods = prods b;
  many = λ p. 1;
  step = λ p j A. StepUp (grammar b) A p;
  into = λ p j. (grammar b).left p;
  watches = λ p. length ((grammar b).kids p);
  watch = λ p i. get_or ((grammar b).kids p) i 0;
}
