-- The number grows by a digit with each child: its count is the weight of those before, its rank the new digit.
use Rattle.chains.specs.Limits.{max_kids}
use Rattle.ranks.specs.Reads.{counts_of, numbers}
use Rattle.ranks.proofs.Counting.{Counting}
use Rattle.ranks.proofs.numbered.Given as goal

abbrev pub invariant-loop-count : goal.invariant-loop-count
invariant-loop-count l = Counting max_kids l.most (counts_of l.count-items) (numbers l.count-items) l.number l.count-index
