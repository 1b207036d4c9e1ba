use native.Mathlib.Omega.{arith}
use Rattle.bookcheck.proofs.Laying.{tread_begins, tread_on, tread_past, tread_ends, tread_misses}
use Rattle.bookcheck.proofs.Answers.{tells_no, tells_eq}
use Rattle.bookcheck.proofs.layout.walks.Goals as goal

pub loop-rest-init : goal.loop-rest-init
loop-rest-init c = tread_begins (omega arith)

pub returns-then-end-here : goal.returns-then-end-here
returns-then-end-here c = tells_no (tread_past c.loop-rest.invariant c.loop-rest-test.true c.next-here.ensures (omega arith) (omega arith))

pub loop-rest-preserved : goal.loop-rest-preserved
loop-rest-preserved c = tread_on c.loop-rest.invariant c.loop-rest-test.true c.next-here.ensures (omega arith) (omega arith)

pub returns : goal.returns
returns c = tells_eq _ _ (tread_ends c.loop-rest.invariant c.loop-rest-test.false) (tread_misses c.loop-rest.invariant c.loop-rest-test.false)
