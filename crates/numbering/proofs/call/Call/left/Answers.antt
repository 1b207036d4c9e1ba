use Rattle.numbering.proofs.Calls.{few_prods, left_is, left_low}
use Rattle.numbering.proofs.call.Call.left.Goals as goal

pub bounds-self-p : goal.bounds-self-p
bounds-self-p c = few_prods c.args.self.now c.requires

pub returns-clause-is : goal.returns-clause-is
returns-clause-is c = left_is c.args.self.now c.requires c.left.ensures

pub returns-clause-known : goal.returns-clause-known
returns-clause-known c = rw (left_is c.args.self.now c.requires c.left.ensures) (left_low c.args.self.now c.requires)
