-- A sweep, production by production. Assumes nothing.
use Rattle.std.proofs.Common.{arith}
use Rattle.tables.proofs.Sweeping.{sweep_next}
use Rattle.tables.proofs.sweep.sweep.Goals as goal

pub loop-p-preserved : goal.loop-p-preserved
loop-p-preserved g c = let w = c.requires.0 in sweep_next c.loop-p.invariant w (omega (arith, c.requires.1)) {mark = c.attend.new.mark} c.in_ok-added.field-0 (rw c.in_ok-added.was at c.attend.ensures)
