use Rattle.numbering.specs.Promise.{lent}
use Rattle.groups.proofs.Printing.{Listing}
use Rattle.groups.proofs.print.node_lines.Given as goal

abbrev pub invariant-loop-i : goal.invariant-loop-i
invariant-loop-i l = Listing l.book l.sheet (lent l.nodes l.groups) l.initial.out l.out l.rest l.i
