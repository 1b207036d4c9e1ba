use Rattle.bookcheck.proofs.Answers.{seek_begins, seek_on, seek_found, seek_ends}
use Rattle.bookcheck.proofs.masks.first_bad_kind.Goals as goal

pub loop-k-init : goal.loop-k-init
loop-k-init c = seek_begins

pub returns-then-bad_kind : goal.returns-then-bad_kind
returns-then-bad_kind c = seek_found c.loop-k.invariant c.loop-k-test.true c.bad_kind.ensures c.if-bad_kind.true

pub loop-k-preserved : goal.loop-k-preserved
loop-k-preserved c = seek_on c.loop-k.invariant c.loop-k-test.true c.bad_kind.ensures c.if-bad_kind.false

pub returns : goal.returns
returns c = seek_ends c.loop-k.invariant c.loop-k-test.false
