-- A production's turn in a sweep. Assumes nothing.
use Rattle.std.proofs.Common.{arith}
use Rattle.tables.proofs.Sweeping.{spared}
use Rattle.tables.proofs.sweep.attend.Goals as goal

pub returns-then-mark-watched : goal.returns-then-mark-watched
returns-then-mark-watched g c =
    let (w, l, f, m) = c.requires in
    spared w l f (omega (arith, c.watched-watched.ensures)) m
