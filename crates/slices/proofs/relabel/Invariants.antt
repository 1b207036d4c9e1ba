-- A label changed everywhere, place by place.
use Rattle.std.proofs.Common.{◌≡◌}
use Rattle.slices.proofs.Relabelling.{relabelled}
use Rattle.slices.proofs.relabel.Given as goal

abbrev pub invariant-loop-label : goal.invariant-loop-label
invariant-loop-label l = l.label-items ≡ relabelled l.a l.b l.label-index l.initial.label-items
