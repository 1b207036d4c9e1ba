use Prim.Native.Nat.{◌-◌}
use native.Mathlib.Omega.{arith}
use lib.ListN.{length}
use Rattle.book.specs.Format.{trailer_bytes}
use Rattle.bookcheck.proofs.Laying.{told_is, laid_by_walk}
use Rattle.bookcheck.proofs.Answers.{tells_no}
use Rattle.bookcheck.proofs.layout.is_laid.Goals as goal

pub returns-then-span-end : goal.returns-then-span-end
returns-then-span-end c = let b = c.args.book.now in tells_no (λ l. omega (arith, told_is b 4 (omega arith)))

pub returns-then-back-span : goal.returns-then-back-span
returns-then-back-span c =
    let b = c.args.book.now in
    tells_no (λ l. omega (arith, told_is b 5 (omega arith), told_is b 1 (omega arith)))

pub returns : goal.returns
returns c =
    let b = c.args.book.now in
    let k = told_is b 4 (omega arith) in
    let p = told_is b 5 (omega arith) in
    let n = told_is b 1 (omega arith) in
    let m = told_is b 2 (omega arith) in
    let at = length b - trailer_bytes - c.span-back.result in
    laid_by_walk b c.productions.result at c.walks.ensures (omega arith) (omega arith) (omega arith) (omega arith) (omega arith)
