-- A number carried into a run. Assumes nothing.
use Rattle.std.proofs.Common.{arith}
use Rattle.slices.proofs.Carrying.{swapped, passed, found, ended, none_more, one_more}
use Rattle.slices.proofs.carry_in.Goals as goal
use Rattle.slices.proofs.carry_in.Goals.{then-carry-y-2, else-carry-y-2}

pub returns-then-carry-y : goal.returns-then-carry-y
returns-then-carry-y c = none_more _ _ _ _ c.requires _ (omega arith) (found c.loop-y.invariant (omega arith) (omega arith) c.if-carry-y.true)

pub loop-y-preserved : goal.loop-y-preserved
loop-y-preserved c =
    elim c.if-carry-y-2.branch [
      | then-carry-y-2 w ↦ rw (w.y-items-is, w.carry-is, w.swap.ensures.x_after, w.swap.ensures.y_after) (swapped c.loop-y.invariant (omega arith) (omega arith) (omega (arith, w.if-carry-y-2.true)))
      | else-carry-y-2 w ↦ rw (w.y-items-is, w.carry-is) (passed c.loop-y.invariant (omega arith) (omega arith) (omega (arith, w.if-carry-y-2.false, c.if-carry-y.false)))
    ]

pub returns : goal.returns
returns c = one_more _ _ _ _ c.requires _ (omega arith) _ (ended c.loop-y.invariant (omega arith) (omega arith))
