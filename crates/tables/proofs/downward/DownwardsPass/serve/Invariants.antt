-- A visit for each child. Assumes nothing.
use Rattle.tables.specs.Downward.{down_steps}
use Rattle.tables.proofs.Rounds.{Round}
use Rattle.tables.proofs.Sweeping.{InStep}
use Rattle.tables.proofs.downward.DownwardsPass.serve.Given as goal

abbrev pub invariant-loop-j : goal.invariant-loop-j
invariant-loop-j l =
    let q = down_steps l.self.book.now l.self.places.now l.self.plausible.codes.now l.self.plausible.counts.now in
    Round q.kinds q.may (InStep q l.p l.initial.sets l.initial.counts) l.initial.sets l.initial.counts l.sets l.counts l.added l.j
