-- A bit is put in for each occurrence, from the first on.
use mathlib.Core.Path.{◌≡◌}
use Rattle.ranks.specs.Reads.{label_at}
use Rattle.blocks.proofs.BitSets.{Marked}
use Rattle.blocks.proofs.occurrences.Given as goal

abbrev pub invariant-loop-o : goal.invariant-loop-o
invariant-loop-o l = Marked (λ i. label_at l.down l.entry i ≡ l.label) l.o l.set
