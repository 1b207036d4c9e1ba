-- All slots in turn. Assumes nothing.
use Rattle.tables.specs.Visit.{Opening}
use Rattle.tables.specs.Downward.{slot_down, given}
use Rattle.tables.proofs.downward.Downwards.prepare.Given as goal

abbrev pub invariant-loop-j : goal.invariant-loop-j
invariant-loop-j l =
    Opening l.self.book.now l.at l.t (slot_down l.t) (λ i. given l.feasible.codes.now l.self.plausible.codes.now (slot_down l.t i))
    (λ i. given l.feasible.counts.now l.self.plausible.counts.now (slot_down l.t i)) l.v l.j
