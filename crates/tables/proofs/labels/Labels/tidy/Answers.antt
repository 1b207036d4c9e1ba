-- A state tidied. Assumes nothing.
use Rattle.tables.proofs.StateNumbers.{tidy_pass, tidy_turn, tidy_done}
use Rattle.tables.proofs.StateTidy.{tidy_state}
use Rattle.tables.proofs.labels.Labels.tidy.Goals.{then-label, else-label}
use Rattle.tables.proofs.labels.Labels.tidy.Goals as goal

pub loop-label-preserved : goal.loop-label-preserved
loop-label-preserved c =
    elim c.if-label.branch [
      | then-label w ↦ rw (w.label-items-is, w.numbers-is) (tidy_turn c.loop-label.invariant c.loop-label-test.true w.if-label.true w.of.ensures)
      | else-label w ↦ rw (w.label-items-is, w.numbers-is) (tidy_pass c.loop-label.invariant c.loop-label-test.true w.if-label.false)
    ]

pub invariant_of-self : goal.invariant_of-self
invariant_of-self c = rw (tidy_done c.loop-label.invariant c.loop-label-test.false) (tidy_state c.self.invariant)

pub returns : goal.returns
returns c = rw (← c.self.view_is) (tidy_done c.loop-label.invariant c.loop-label-test.false)
