-- A number carried into a run. Assumes nothing.
use Rattle.slices.proofs.Carrying.{Carrying}
use Rattle.slices.proofs.carry_in.Given as goal

abbrev pub invariant-loop-y : goal.invariant-loop-y
invariant-loop-y l = Carrying l.initial.y-items l.x l.y-items l.carry l.y-index
