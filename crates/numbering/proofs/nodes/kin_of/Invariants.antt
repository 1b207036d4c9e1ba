use Rattle.numbering.specs.Nodes.{plausible_ranks, subtree_ends}
use Rattle.numbering.proofs.Children.{Gathering}
use Rattle.numbering.proofs.nodes.kin_of.Given as goal

abbrev pub invariant-loop-j : goal.invariant-loop-j
invariant-loop-j l = Gathering l.call.tables.plausible_counts.now (plausible_ranks l.nodes) (subtree_ends l.nodes) l.kind-items l.i l.children l.at l.j
