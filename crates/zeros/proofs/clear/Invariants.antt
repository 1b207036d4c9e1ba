-- The first places cleared, turn by turn.
use Rattle.std.proofs.Common.{◌≡◌, replicate, take, drop}
use Rattle.zeros.proofs.clear.Given as goal

abbrev pub invariant-loop-place : goal.invariant-loop-place
invariant-loop-place g l =
    (take l.place-index l.place-items ≡ replicate l.place-index g.T.Zero.zero)
    × (drop l.place-index l.place-items ≡ drop l.place-index l.initial.place-items)
