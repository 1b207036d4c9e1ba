-- The downward pass over an accepted book with its plausible sets s, counted by c.
use Rattle.std.specs.Prelude.{◌≡◌, List, ℕ, suc, ◌-◌, ◌*◌, eqb, ltb, length, get_or, set}
use Rattle.lists.specs.Pick.{pick}
use Rattle.lists.specs.Part.{place}
use Rattle.chains.specs.Limits.{max_members}
use Rattle.chains.specs.Plausible.{Plausible}
use Rattle.chains.specs.Feasible.{Feasible}
use Rattle.chains.specs.Steps.{StepDown}
use Rattle.book.specs.Format.{kinds, prods, grammar}
use Rattle.members.specs.Sets.{members, Has}
use Rattle.tables.specs.Memory.{Fine}
use Rattle.tables.specs.Shape.{Opened}
use Rattle.tables.specs.Sweep.{Steps}

-- ── a visit for the child in slot t ──
-- the slot of turn j: t first, so that it is tied last, then the others in order
abbrev pub slot_down : ℕ → ℕ → ℕ
slot_down t j = pick (eqb j 0) t (pick (ltb t j) j (j - 1))

-- the left kind's codes are feasible ones, the children's plausible ones
abbrev pub given : List ℕ → List ℕ → ℕ → List ℕ
given feasible plausible slot = pick (eqb slot 0) feasible plausible

-- ── the steps ──
-- production p has a step for each child, and watches its left kind
abbrev pub down_steps : (b places s c : List ℕ) → Steps
down_steps b places s c = record {
  leans = Opened b places × Fine (kinds b) (Plausible (grammar b)) s c;
  kinds = kinds b;
  may = Feasible (grammar b);
  prods = prods b;
  many = λ p. length ((grammar b).kids p);
  step = λ p j A. StepDown (grammar b) A (Has s c) p (suc j);
  into = λ p j. get_or ((grammar b).kids p) j 0;
  watches = λ p. 1;
  watch = λ p i. (grammar b).left p;
}

-- ── the beginning ──
-- kind k's members, off the sets s with the counts c, put into its set in f, and counted in d
pub record Seeded (k : ℕ) (s c f d f' d' : List ℕ) : Type 0 where
  pub held : f' ≡ place (k * max_members) (members s c k) f
  pub counted : d' ≡ set d k (get_or c k 0)
