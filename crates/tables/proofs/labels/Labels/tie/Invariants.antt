-- A slot tied as a code groups it. Assumes nothing.
use Rattle.tables.proofs.StateLoops.{Tying}
use Rattle.tables.proofs.labels.Labels.tie.Given as goal

abbrev pub invariant-loop-x : goal.invariant-loop-x
invariant-loop-x l = Tying l.initial.self l.slot l.width l.code l.self l.x
