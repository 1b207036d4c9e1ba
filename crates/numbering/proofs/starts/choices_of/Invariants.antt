use Rattle.numbering.proofs.Products.{Multiplying}
use Rattle.numbering.proofs.starts.choices_of.Given as goal

abbrev pub invariant-loop-kind : goal.invariant-loop-kind
invariant-loop-kind l = Multiplying l.call.tables.plausible_counts.now l.kind-items l.product l.kind-index
