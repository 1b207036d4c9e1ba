-- An up entry. Assumes nothing.
use Rattle.tables.proofs.FillEntry.{up_put}
use Rattle.tables.proofs.entry.UpEntry.put.Goals as goal

pub returns : goal.returns
returns c = up_put c.args.out.now c.args.at c.plausible_rank.ensures c.requires.2
