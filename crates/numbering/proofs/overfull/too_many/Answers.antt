use Rattle.numbering.proofs.Counted.{too_many_else}
use Rattle.numbering.proofs.overfull.too_many.Goals as goal

pub returns-else-over : goal.returns-else-over
returns-else-over c = too_many_else c.args.call.now c.kinds-n.ensures c.over.ensures c.if-over.false c.over-else-over.ensures
