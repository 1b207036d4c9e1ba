use lib.ListN.{take}
use Rattle.groups.specs.Printed.{numbers}
use Rattle.groups.specs.Adding.{Adds}
use Rattle.groups.proofs.print.node_line.Given as goal

abbrev pub invariant-loop-group : goal.invariant-loop-group
invariant-loop-group l = Adds l.initial.out (numbers (take l.group-index l.groups)) l.out
