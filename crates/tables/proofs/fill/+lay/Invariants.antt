-- `lay` meets its contract, with the children left as the number that falls at each call of itself. Assumes nothing.
use Prim.Native.Nat.{suc}
use lib.ListN.{get_or}
use Rattle.ranks.specs.Entries.{choices}
use Rattle.tables.specs.Shape.{kind_of, kinds_from}
use Rattle.tables.specs.Fill.{Choices}
use Rattle.tables.proofs.FillRuns.{Blocks}
use Rattle.tables.proofs.fill.+lay.Given as goal

abbrev pub decreases-lay : goal.decreases-lay
decreases-lay g l = l.left

abbrev pub invariant-loop-code : goal.invariant-loop-code
invariant-loop-code g l =
    let c = l.plausible.counts.now in
    Blocks g.E.Entry.size (choices c (kinds_from l.v (suc l.slot))) (get_or c (kind_of l.v l.slot) 0) (Choices (g.E.Entry.says l.table l.v) l.v l.slot l.plausible.codes.now c (kinds_from l.v l.slot) l.s) l.initial.out l.at l.out l.to l.code-index
