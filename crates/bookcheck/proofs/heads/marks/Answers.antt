use mathlib.Core.Path.{◌∙◌}
use native.Mathlib.Omega.{arith}
use Rattle.bookcheck.proofs.Marking.{marking_begins, left_low, marking_goes, marking_ends}
use Rattle.bookcheck.proofs.heads.marks.Goals as goal

pub loop-p-init : goal.loop-p-init
loop-p-init c = marking_begins c.requires c.first_entry-at.ensures

pub bounds-seen-wide : goal.bounds-seen-wide
bounds-seen-wide c = omega (arith, left_low c.loop-p.invariant c.loop-p-test.true)

pub loop-p-preserved : goal.loop-p-preserved
loop-p-preserved c =
    let head = c.wide.ensures.0 ∙ c.left.ensures in
    marking_goes c.loop-p.invariant c.loop-p-test.true head c.next-at.ensures

pub returns : goal.returns
returns c = marking_ends c.loop-p.invariant c.loop-p-test.false
