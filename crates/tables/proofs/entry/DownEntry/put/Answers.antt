-- A down entry. Assumes nothing.
use mathlib.Core.Path.{refl}
use Rattle.tables.proofs.FillEntry.{down_put}
use Rattle.tables.proofs.entry.DownEntry.put.Goals as goal

pub returns : goal.returns
returns c = down_put c.requires.0 c.requires.2 refl c.put_labels.ensures c.put_ranks.ensures
