use native.Mathlib.Omega.{arith}
use borrow.Author.Tests.{eq-eqb, ne_eqb}
use Rattle.bookcheck.proofs.Marking.{mark_tells}
use Rattle.bookcheck.proofs.Answers.{seek_begins, seek_on, seek_found, seek_ends}
use Rattle.bookcheck.proofs.heads.first_headless.Goals as goal

pub loop-k-init : goal.loop-k-init
loop-k-init c = seek_begins

pub returns-then-seen-wide-eq0 : goal.returns-then-seen-wide-eq0
returns-then-seen-wide-eq0 c =
    let mark = mark_tells c.marks-seen.ensures c.requires.0.prods_told c.wide.ensures.0 (omega arith) in
    seek_found c.loop-k.invariant c.loop-k-test.true mark (eq-eqb _ _ c.if-seen-wide-eq0.true)

pub loop-k-preserved : goal.loop-k-preserved
loop-k-preserved c =
    let mark = mark_tells c.marks-seen.ensures c.requires.0.prods_told c.wide.ensures.0 (omega arith) in
    seek_on c.loop-k.invariant c.loop-k-test.true mark (ne_eqb _ _ c.if-seen-wide-eq0.false)

pub returns : goal.returns
returns c = seek_ends c.loop-k.invariant c.loop-k-test.false
