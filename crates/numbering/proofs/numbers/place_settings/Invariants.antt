use Rattle.numbering.proofs.Firsts.{Placing}
use Rattle.numbering.proofs.numbers.place_settings.Given as goal

abbrev pub invariant-loop-i : goal.invariant-loop-i
invariant-loop-i l = Placing l.call l.initial.nodes l.nodes l.next l.i
