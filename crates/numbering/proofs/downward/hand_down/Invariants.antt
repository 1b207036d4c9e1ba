use Rattle.numbering.proofs.Handing.{Handing}
use Rattle.numbering.proofs.downward.hand_down.Given as goal

abbrev pub invariant-loop-j : goal.invariant-loop-j
invariant-loop-j l = Handing l.call l.i l.p l.entry l.initial.nodes l.nodes l.child l.j
