-- All in one group. Assumes nothing.
use Rattle.tables.proofs.StateLoops.{zeros_state}
use Rattle.tables.proofs.labels.Labels.zeros.Goals as goal

pub invariant_of-result : goal.invariant_of-result
invariant_of-result c = zeros_state
