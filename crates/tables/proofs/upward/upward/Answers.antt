-- The upward pass. Assumes nothing.
use Rattle.chains.specs.Plausible.{Plausible}
use Rattle.book.specs.Format.{kinds, grammar}
use Rattle.tables.proofs.Holds.{cleared_fine}
use Rattle.tables.proofs.UpwardSweep.{up_lawful, up_outcome}
use Rattle.tables.proofs.upward.upward.Goals as goal

pub close-requires : goal.close-requires
close-requires c =
    let (o, there, here) = c.requires in
    (up_lawful o, rw (c.clear.ensures.codes, c.clear.ensures.counts) (cleared_fine (kinds c.args.book.now) c.args.sets.now c.args.counts.now there here (Plausible (grammar c.args.book.now))))

pub returns : goal.returns
returns c =
    let (o, there, here) = c.requires in
    up_outcome o there here (rw (c.clear.ensures.codes, c.clear.ensures.counts) at c.close.ensures)
