-- The downward pass. Assumes nothing.
use Rattle.bookcheck.proofs.Accepted.{told_start}
use Rattle.tables.proofs.DownwardSweep.{down_lawful, down_begun, down_outcome}
use Rattle.tables.proofs.downward.downward.Goals as goal

pub close-requires : goal.close-requires
close-requires c =
    let (z, ex, there, here) = c.requires in
    let o = rw (told_start z.book, c.clear.ensures.codes, c.clear.ensures.counts) at c.seed.ensures in
    (down_lawful z ex.fine, down_begun z c.args.feasible.now c.args.tally.now there here ex o)

pub returns : goal.returns
returns c =
    let (z, ex, there, here) = c.requires in
    let o = rw (told_start z.book, c.clear.ensures.codes, c.clear.ensures.counts) at c.seed.ensures in
    down_outcome z c.args.feasible.now c.args.tally.now there here ex o c.close.ensures
