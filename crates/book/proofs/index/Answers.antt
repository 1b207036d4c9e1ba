use native.Mathlib.Omega.{arith}
use Rattle.book.proofs.Places.{walk_begins, walk_goes, walk_ends}
use Rattle.book.proofs.index.Goals as goal

pub loop-place-init : goal.loop-place-init
loop-place-init c = walk_begins _ _ _ (cc) c.first_entry-at.ensures

pub loop-place-preserved : goal.loop-place-preserved
loop-place-preserved c = walk_goes _ c.loop-place.invariant (omega arith) c.step-at.ensures.place c.step-at.ensures.near

pub returns : goal.returns
returns c = walk_ends c.loop-place.invariant (omega arith)
