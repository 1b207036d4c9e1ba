-- A node's own settings hold their labels; then its children, one after another.
use Rattle.numbering.proofs.Families.{Naming}
use Rattle.numbering.proofs.numbers.number_node.Given as goal

abbrev pub invariant-loop-j : goal.invariant-loop-j
invariant-loop-j l = Naming l.call l.nodes l.i l.stamp l.node.entry l.first l.initial.holders l.initial.groups l.holders l.groups l.next l.child l.j
