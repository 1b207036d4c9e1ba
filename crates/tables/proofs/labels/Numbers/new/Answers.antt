-- No number given yet. Assumes nothing.
use mathlib.Core.Path.{refl}
use Rattle.chains.specs.Labels.{labels_by}
use Rattle.tables.proofs.StateNumbers.{numbers_begun}
use Rattle.tables.proofs.labels.Numbers.new.Goals as goal

pub invariant_of-result : goal.invariant_of-result
invariant_of-result c = numbers_begun

pub returns : goal.returns
unfolding labels_by
returns c = refl
