-- The search for a state at a level. Assumes nothing.
use Rattle.tables.proofs.StatesSeen.{known_found}
use Rattle.tables.proofs.seen.Level.knows.Goals as goal

pub returns : goal.returns
returns c = rw c.filled.ensures at (known_found c.args.self.now.states c.filled.result c.args.s.now c.contains.result c.contains.ensures.cases)
