-- The rank of a member. Assumes nothing.
use Rattle.tables.proofs.FillEntry.{rank_found}
use Rattle.tables.proofs.ranked.Sets.rank_of.Goals as goal

pub unwrap-requires : goal.unwrap-requires
unwrap-requires c = rank_found c.requires.0 c.requires.1 c.place_of-rank.ensures
