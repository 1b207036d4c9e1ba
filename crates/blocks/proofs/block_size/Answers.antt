-- The ones of a set of 64 bits are those in it.
use borrow.Author.Rules.{rules}
use Rattle.blocks.proofs.SetMembers.{size_is}
use Rattle.blocks.proofs.block_size.Goals as goal

pub returns : goal.returns
returns c = size_is c.args.set (search rules)
