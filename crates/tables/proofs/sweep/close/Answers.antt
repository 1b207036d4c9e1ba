-- Sweeps until one adds nothing. Assumes nothing.
use Rattle.tables.proofs.Sweeping.{close_begun}
use Rattle.tables.proofs.sweep.close.Goals as goal

pub loop-init : goal.loop-init
loop-init g c = let (w, f) = c.requires in close_begun w c.productions.ensures f
