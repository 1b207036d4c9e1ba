use Rattle.numbering.proofs.Rows.{Telling}
use Rattle.numbering.proofs.telling.tell.Given as goal

abbrev pub invariant-loop-i : goal.invariant-loop-i
invariant-loop-i l = Telling l.known l.initial.nodes l.nodes l.i
