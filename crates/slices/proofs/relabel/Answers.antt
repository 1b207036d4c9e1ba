-- A label changed everywhere. Assumes nothing.
use Rattle.std.proofs.Common.{arith}
use Rattle.slices.proofs.Relabelling.{changed, passed}
use Rattle.slices.proofs.relabel.Goals as goal
use Rattle.slices.proofs.relabel.Goals.{then-label-b, else-label-b}

pub loop-label-preserved : goal.loop-label-preserved
loop-label-preserved c =
    elim c.if-label-b.branch [
      | then-label-b w ↦ rw w.label-is (changed _ _ _ _ (omega arith) (omega arith) c.loop-label.invariant (omega (arith, w.if-label-b.true)))
      | else-label-b w ↦ rw w.label-is (passed _ _ _ _ (omega arith) (omega arith) c.loop-label.invariant (omega (arith, w.if-label-b.false)))
    ]
