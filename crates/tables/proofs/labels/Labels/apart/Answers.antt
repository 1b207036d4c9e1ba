-- Every occurrence by itself. Assumes nothing.
use mathlib.Core.Path.{refl}
use Rattle.tables.proofs.StateLoops.{lay_begun, lay_turn, lay_done, apart_low}
use Rattle.tables.proofs.labels.Labels.apart.Goals as goal

pub loop-o-init : goal.loop-o-init
loop-o-init c = lay_begun _ _ refl

pub loop-o-preserved : goal.loop-o-preserved
loop-o-preserved c = lay_turn c.loop-o.invariant c.loop-o-test.true c.own.ensures

pub invariant_of-result : goal.invariant_of-result
invariant_of-result c = rw (lay_done c.loop-o.invariant c.loop-o-test.false c.loop-o.auto.o-end) (apart_low c.args.book.now c.args.at)
