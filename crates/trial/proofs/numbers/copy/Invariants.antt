use lib.ListN.{take}
use Rattle.trial.specs.Numbers.{Copied}
use Rattle.trial.proofs.numbers.copy.Given as goal

abbrev pub invariant-loop-i : goal.invariant-loop-i
invariant-loop-i g l = Copied g.T.Number.number g.T.Number.WIDTH l.bytes (take l.n l.fn.to) l.i l.place-items
