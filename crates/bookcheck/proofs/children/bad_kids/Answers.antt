use mathlib.Core.Path.{◌∙◌}
use native.Mathlib.Omega.{arith}
use Rattle.bookcheck.proofs.Kin.{alien_left, many_kids, alien_kid, start_kid, kin_begins, kin_grows, kin_fair}
use Rattle.bookcheck.proofs.Answers.{tells_yes, tells_no}
use Rattle.bookcheck.proofs.children.bad_kids.Goals as goal

pub returns-then-n-left : goal.returns-then-n-left
returns-then-n-left c = let s = c.requires in tells_yes (alien_left s.0 s.1 (omega arith))

pub returns-then-k-gt-MAX_CHILDREN : goal.returns-then-k-gt-MAX_CHILDREN
returns-then-k-gt-MAX_CHILDREN c = let s = c.requires in tells_yes (many_kids s.0 s.1 (omega arith))

pub loop-j-init : goal.loop-j-init
loop-j-init c = let s = c.requires in kin_begins s.0 s.1 (omega arith) (omega arith)

pub returns-then-n-kind : goal.returns-then-n-kind
returns-then-n-kind c =
    let s = c.requires in
    tells_yes (alien_kid s.0 s.1 c.loop-j.j (omega arith) (omega arith))

pub returns-then-kind-first : goal.returns-then-kind-first
returns-then-kind-first c =
    let s = c.requires in
    tells_yes (start_kid s.0 s.1 c.loop-j.j (omega arith) (omega arith))

pub loop-j-preserved : goal.loop-j-preserved
loop-j-preserved c =
    let s = c.requires in
    kin_grows s.0 s.1 c.loop-j.invariant (omega arith) (omega arith) (λ e. c.if-kind-first.false (c.kid-kind.ensures ∙ e))

pub returns : goal.returns
returns c =
    let s = c.requires in
    tells_no (kin_fair s.0 s.1 c.loop-j.invariant (omega arith))
