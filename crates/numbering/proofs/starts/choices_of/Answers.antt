use Rattle.std.proofs.Common.{arith, rules, ap, ◌∙◌}
use Rattle.chains.specs.Limits.{max_kids}
use Rattle.ranks.specs.Entries.{choices}
use Rattle.numbering.proofs.Calls.{kid_low}
use Rattle.numbering.proofs.Products.{multiplying_turn, multiplying_small, multiplying_done}
use Rattle.numbering.proofs.starts.choices_of.Goals as goal

pub bounds-call-kind : goal.bounds-call-kind
bounds-call-kind c = omega (arith, kid_low c.args.call.now c.requires c.kids-kind-items.ensures.are c.loop-kind.kind-index, c.args.call.now.plausible_counted)

pub overflow_mul-product : goal.overflow_mul-product
overflow_mul-product c = omega (arith, multiplying_small (multiplying_turn c.loop-kind.invariant c.loop-kind-test.true (search rules)) max_kids (omega arith))

pub loop-kind-preserved : goal.loop-kind-preserved
loop-kind-preserved c = multiplying_turn c.loop-kind.invariant c.loop-kind-test.true (search rules)

pub returns-clause-is : goal.returns-clause-is
returns-clause-is c = multiplying_done c.loop-kind.invariant c.loop-kind-test.false ∙ ap (choices c.args.call.now.tables.plausible_counts.now) c.kids-kind-items.ensures.are

pub returns-clause-small : goal.returns-clause-small
returns-clause-small c = multiplying_small c.loop-kind.invariant max_kids (omega arith)
