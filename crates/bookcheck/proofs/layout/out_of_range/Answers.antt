use mathlib.Core.Logic.{inl, inr}
use native.Mathlib.Omega.{arith}
use Rattle.bookcheck.proofs.Laying.{told_is, range_kept}
use Rattle.bookcheck.proofs.Answers.{tells_yes, tells_le}
use Rattle.bookcheck.proofs.layout.out_of_range.Goals as goal

pub returns-then-n-lt1 : goal.returns-then-n-lt1
returns-then-n-lt1 c =
    let h = told_is c.args.book.now 1 (omega arith) in
    tells_yes (inl (omega arith))

pub returns-then-n-gt-MAX_KINDS : goal.returns-then-n-gt-MAX_KINDS
returns-then-n-gt-MAX_KINDS c =
    let h = told_is c.args.book.now 1 (omega arith) in
    tells_yes (inr (inl (omega arith)))

pub returns-then-m-lt1 : goal.returns-then-m-lt1
returns-then-m-lt1 c =
    let h = told_is c.args.book.now 2 (omega arith) in
    tells_yes (inr (inr (inl (omega arith))))

pub returns-then-m-gt-MAX_PRODUCTIONS : goal.returns-then-m-gt-MAX_PRODUCTIONS
returns-then-m-gt-MAX_PRODUCTIONS c =
    let h = told_is c.args.book.now 2 (omega arith) in
    tells_yes (inr (inr (inr (inl (omega arith)))))

pub returns : goal.returns
returns c =
    let b = c.args.book.now in
    let n = told_is b 1 (omega arith) in
    let m = told_is b 2 (omega arith) in
    let s = told_is b 3 (omega arith) in
    let k = c.kinds-n.ensures in
    let e = c.start.ensures in
    tells_le c.kinds-n.result c.start.result (λ h. inr (inr (inr (inr (omega (arith, n, s, k, e))))))
    (λ h. range_kept b (omega arith) (omega arith) (omega arith) (omega arith) (omega (arith, n, s, k, e)))
