use Rattle.numbering.proofs.DownReads.{DownGoing}
use Rattle.numbering.proofs.downward.read_downward.Given as goal

abbrev pub invariant-loop-i : goal.invariant-loop-i
invariant-loop-i l = DownGoing l.call l.initial.nodes l.nodes l.i
