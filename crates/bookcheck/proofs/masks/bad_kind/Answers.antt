use native.Mathlib.Omega.{arith}
use mathlib.Core.Path.{sym, refl, ◌∙◌}
use Rattle.bookcheck.proofs.Kinding.{many_settings, stray_bit, start_bit, fair_kind}
use Rattle.bookcheck.proofs.Answers.{tells_yes, tells_no, tells_lt}
use Rattle.bookcheck.proofs.masks.bad_kind.Goals as goal

pub returns-then-a-gt-MAX_SETTINGS : goal.returns-then-a-gt-MAX_SETTINGS
returns-then-a-gt-MAX_SETTINGS c = tells_yes (many_settings c.requires.laid c.args.k c.settings-a.ensures refl (omega arith))

pub returns-then-inherited-a-gt0 : goal.returns-then-inherited-a-gt0
returns-then-inherited-a-gt0 c =
    let m = c.word-inherited.ensures.0 ∙ c.mask.ensures in
    tells_yes (stray_bit c.requires.laid c.args.k c.settings-a.ensures m c.word-inherited.ensures.1 (omega arith))

pub returns-then-k-first : goal.returns-then-k-first
returns-then-k-first c =
    let a = c.settings-a.ensures in
    let m = c.word-inherited.ensures.0 ∙ c.mask.ensures in
    tells_lt _ _
    (start_bit c.requires.laid c.args.k a m c.word-inherited.ensures.1 (c.if-k-first.true ∙ c.requires.start_told))
    (λ h. fair_kind c.requires.laid c.args.k a m (omega arith) (omega arith) (λ q. h))

pub returns : goal.returns
returns c =
    let a = c.settings-a.ensures in
    let m = c.word-inherited.ensures.0 ∙ c.mask.ensures in
    tells_no (fair_kind c.requires.laid c.args.k a m (omega arith) (omega arith) (λ q. absurd (c.if-k-first.false (q ∙ sym c.requires.start_told))))
