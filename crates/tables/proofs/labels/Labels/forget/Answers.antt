-- A slot dropped. Assumes nothing.
use Rattle.tables.proofs.StateLoops.{slot_emptied}
use Rattle.tables.proofs.State.{forget_state}
use Rattle.tables.proofs.labels.Labels.forget.Goals as goal

pub invariant_of-self : goal.invariant_of-self
invariant_of-self c = rw (slot_emptied c.self.invariant c.args.slot c.requires _ (c.fill.ensures.after (λ y q. q))) (forget_state c.self.invariant c.args.slot c.requires)
