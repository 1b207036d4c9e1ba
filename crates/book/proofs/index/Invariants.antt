use Rattle.book.proofs.Places.{Walking}
use Rattle.book.proofs.index.Given as goal

abbrev pub invariant-loop-place : goal.invariant-loop-place
invariant-loop-place l = Walking l.book l.n l.place-items l.at l.place-index
