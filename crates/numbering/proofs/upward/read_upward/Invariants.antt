use Rattle.numbering.proofs.UpReads.{UpGoing}
use Rattle.numbering.proofs.upward.read_upward.Given as goal

abbrev pub invariant-loop-i : goal.invariant-loop-i
invariant-loop-i l = UpGoing l.call l.nodes l.i
