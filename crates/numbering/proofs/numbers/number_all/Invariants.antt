use Rattle.numbering.proofs.Walking.{Walking}
use Rattle.numbering.proofs.numbers.number_all.Given as goal

abbrev pub invariant-loop-i : goal.invariant-loop-i
invariant-loop-i l = Walking l.call l.nodes l.holders l.fn.groups l.groups l.next l.i
