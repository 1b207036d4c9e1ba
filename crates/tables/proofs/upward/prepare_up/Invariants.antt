-- The children in turn. Assumes nothing.
use Prim.Native.Nat.{suc}
use Rattle.tables.specs.Visit.{Opening}
use Rattle.tables.proofs.upward.prepare_up.Given as goal

abbrev pub invariant-loop-j : goal.invariant-loop-j
invariant-loop-j l = Opening l.book l.at 0 suc (λ i. l.sets.codes.now) (λ i. l.sets.counts.now) l.v l.j
