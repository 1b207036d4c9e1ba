use Rattle.std.proofs.Common.{arith, refl}
use Rattle.numbering.proofs.Calls.{few_prods, kids_inside, kids_are, few_kids}
use Rattle.numbering.proofs.call.Call.kids.Goals as goal

pub bounds-self-p : goal.bounds-self-p
bounds-self-p c = few_prods c.args.self.now c.requires

pub overflow_add-from : goal.overflow_add-from
overflow_add-from c = omega (arith, kids_inside c.args.self.now c.requires refl, c.type_inv.self)

pub overflow_add-result : goal.overflow_add-result
overflow_add-result c = omega (arith, kids_inside c.args.self.now c.requires c.arity-arity.ensures, c.type_inv.self)

pub slice_bounds-result-end : goal.slice_bounds-result-end
slice_bounds-result-end c = omega (arith, kids_inside c.args.self.now c.requires c.arity-arity.ensures)

pub returns-clause-are : goal.returns-clause-are
returns-clause-are c = kids_are c.args.self.now c.requires c.arity-arity.ensures

pub returns-clause-few : goal.returns-clause-few
returns-clause-few c = rw (kids_are c.args.self.now c.requires c.arity-arity.ensures) (few_kids c.args.self.now c.requires)
