-- The ranks of all children. Assumes nothing.
use Rattle.tables.specs.Fill.{ChildRanks}
use Rattle.tables.proofs.entry.put_ranks.Given as goal

abbrev pub invariant-loop-j : goal.invariant-loop-j
invariant-loop-j l = ChildRanks l.feasible.codes.now l.feasible.counts.now l.v l.s l.j l.initial.out l.at l.out
