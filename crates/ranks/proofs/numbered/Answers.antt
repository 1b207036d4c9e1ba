-- The number grows by a digit with each child: its count is the weight of those before, its rank the new digit.
use Rattle.std.proofs.Common.{arith}
use Rattle.ranks.proofs.Counting.{counting_step, counting_small, counting_done, numbers_long, count_at, number_at}
use Rattle.ranks.proofs.numbered.Goals as goal

pub loop-count-preserved : goal.loop-count-preserved
loop-count-preserved c =
    let a = c.args in
    let l = c.loop-count in
    let h = count_at a.children l.count-index (omega arith) in
    let k = number_at a.children l.count-index (omega arith) in
    counting_step l.invariant (omega arith) (omega (arith, numbers_long a.children)) (omega (arith, h)) (omega arith) (omega (arith, k)) (omega arith)

pub returns : goal.returns
returns c = (counting_done c.loop-count.invariant (omega arith), counting_small c.loop-count.invariant)
