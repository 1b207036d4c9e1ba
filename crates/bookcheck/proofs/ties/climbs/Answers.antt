use mathlib.Core.Path.{◌∙◌, sym}
use native.Mathlib.Omega.{arith}
use Rattle.bookcheck.proofs.Answers.{tells_yes}
use Rattle.bookcheck.proofs.Tying.{climb_last, climb_equal, climb_other}
use Rattle.bookcheck.proofs.ties.climbs.Goals as goal

pub returns-then-next-d : goal.returns-then-next-d
returns-then-next-d c = let a = c.args in tells_yes (climb_last a.book.now a.at a.i (omega arith))

pub returns-then-o-to : goal.returns-then-o-to
returns-then-o-to c =
    let a = c.args in
    climb_equal a.book.now a.at a.i c.to-o.ensures c.to.ensures (omega arith) c.if-o-to.true c.from.ensures c.from-then-o-to.ensures

pub returns : goal.returns
returns c =
    let a = c.args in
    climb_other a.book.now a.at a.i c.to-o.ensures c.to-2.ensures (omega arith) (λ e. c.if-o-to.false (e ∙ c.to-2.ensures ∙ sym c.to.ensures))
