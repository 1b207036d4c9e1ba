use Rattle.sheet.proofs.Walk.{Children}
use Rattle.sheet.proofs.reader.Reader.+subtree.Given as goal

abbrev pub decreases-subtree : goal.decreases-subtree
decreases-subtree l = l.levels

abbrev pub invariant-loop-j : goal.invariant-loop-j
invariant-loop-j l = Children l.self.book.now l.self.sheet.now l.fn.before.nodes l.kind l.levels l.entry l.j-end l.counts l.j
