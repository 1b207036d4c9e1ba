use native.Mathlib.Omega.{arith}
use Rattle.bookcheck.proofs.Answers.{tells_yes, tells_no}
use Rattle.bookcheck.proofs.Tying.{ties_begin, ties_go, unfair, falling, ties_fair}
use Rattle.bookcheck.proofs.ties.bad_ties.Goals as goal

pub loop-i-init : goal.loop-i-init
loop-i-init c = ties_begin

pub returns-then-not-is_fair : goal.returns-then-not-is_fair
returns-then-not-is_fair c =
    let unfit = c.is_fair.ensures.fails c.if-not-is_fair.true in
    tells_yes (unfair c.requires c.loop-i.i (omega arith) unfit)

pub returns-then-not-climbs : goal.returns-then-not-climbs
returns-then-not-climbs c =
    let falls = c.climbs.ensures.fails c.if-not-climbs.true in
    tells_yes (falling c.requires c.loop-i.i falls)

pub loop-i-preserved : goal.loop-i-preserved
loop-i-preserved c =
    let fair = c.is_fair.ensures.holds c.if-not-is_fair.false in
    ties_go c.loop-i.invariant (omega arith) fair (c.climbs.ensures.holds c.if-not-climbs.false)

pub returns : goal.returns
returns c = tells_no (ties_fair c.requires c.loop-i.invariant (omega arith))
