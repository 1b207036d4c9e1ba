-- The sum of the children's counts. Assumes nothing.
use mathlib.Core.Path.{◌≡◌}
use Prim.Native.Nat.{suc, ◌+◌, ◌*◌, ◌≤◌}
use Rattle.book.specs.Reading.{kid_at}
use Rattle.tables.specs.Sweep.{total}
use Rattle.tables.proofs.upward.UpwardsPass.watched.Given as goal

abbrev pub invariant-loop-i : goal.invariant-loop-i
invariant-loop-i l = (l.sum ≡ suc (total l.counts (kid_at l.self.book.now l.at) l.i)) × (l.sum ≤ 255 * l.i + 1)
