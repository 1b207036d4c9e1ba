-- Two groups made one. Assumes nothing.
use mathlib.Core.Path.{sym}
use native.Mathlib.Omega.{arith}
use Rattle.tables.proofs.StateLoops.{join_state, join_same}
use Rattle.tables.proofs.labels.Labels.merge.Goals as goal

pub invariant_of-self : goal.invariant_of-self
invariant_of-self c = join_state c.args.i c.args.j c.self.invariant c.requires.0 c.relabel.ensures

pub returns-else-a-b : goal.returns-else-a-b
returns-else-a-b c = rw (← c.self.view_is) (sym (join_same c.self.inside.of c.args.i c.args.j (omega (arith, c.if-a-b.false))))
