use Rattle.bookcheck.proofs.Answers.{tells_no}
use Rattle.bookcheck.proofs.Tying.{unfair_to, unfair_from, fair_target}
use Rattle.bookcheck.proofs.ties.is_fair.Goals as goal

pub returns-then-not-exists : goal.returns-then-not-exists
returns-then-not-exists c =
    let a = c.args in
    tells_no (unfair_to a.book.now a.at a.i c.to-o.ensures c.exists.ensures c.if-not-exists.true)

pub returns-then-not-exists-2 : goal.returns-then-not-exists-2
returns-then-not-exists-2 c =
    let a = c.args in
    tells_no (unfair_from a.book.now a.at a.i c.to-o.ensures c.from.ensures c.exists-2.ensures c.if-not-exists-2.true)

pub is_target-requires : goal.is_target-requires
is_target-requires c = (c.requires.0, c.exists.ensures.holds c.if-not-exists.false)

pub returns : goal.returns
returns c =
    let a = c.args in
    let first = c.if-not-exists.false in
    let second = c.if-not-exists-2.false in
    fair_target a.book.now a.at a.i c.to-o.ensures c.from.ensures c.exists.ensures first c.exists-2.ensures second c.is_target.ensures
