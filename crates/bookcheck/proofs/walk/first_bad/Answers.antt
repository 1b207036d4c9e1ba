use Rattle.bookcheck.proofs.Passing.{passing_begins, stands, passing_found, passing_on, passing_ends}
use Rattle.bookcheck.proofs.walk.first_bad.Goals as goal

pub loop-p-init : goal.loop-p-init
loop-p-init c = passing_begins c.requires.0.laid c.requires.1 c.first_entry-at.ensures

pub bad-requires : goal.bad-requires
bad-requires c = (stands c.loop-p.invariant c.loop-p-test.true, c.requires.0)

pub returns-then-bad : goal.returns-then-bad
returns-then-bad c = passing_found c.loop-p.invariant c.loop-p-test.true c.bad.ensures c.if-bad.true

pub loop-p-preserved : goal.loop-p-preserved
loop-p-preserved c = passing_on c.loop-p.invariant c.loop-p-test.true c.bad.ensures c.if-bad.false c.next-at.ensures

pub returns : goal.returns
returns c = passing_ends c.loop-p.invariant c.loop-p-test.false
