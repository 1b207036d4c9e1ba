use native.Mathlib.Omega.{arith}
use Rattle.ranks.specs.Room.{up_exceeds, down_exceeds}
use Rattle.ranks.proofs.room_for.Goals as goal

pub returns-then-up-ups : goal.returns-then-up-ups
returns-then-up-ups c = rw c.at.ensures (up_exceeds (omega arith))

pub returns-then-down-downs : goal.returns-then-down-downs
returns-then-down-downs c = rw c.at-then-down-downs.ensures (down_exceeds (omega arith) (omega arith))
