-- Gathering meets its contract, by recursion on the turns left. Assumes nothing.
use Prim.Native.Nat.{◌-◌}
use Rattle.tables.proofs.Gathering.{Looping}
use Rattle.tables.proofs.visit.Visit.+gather.Given as goal

abbrev pub decreases-gather : goal.decreases-gather
decreases-gather l = l.j

abbrev pub invariant-loop-code : goal.invariant-loop-code
invariant-loop-code l = Looping l.self (l.j - 1) l.s l.initial.sets l.initial.counts l.seen l.sets l.counts l.added l.code-index
