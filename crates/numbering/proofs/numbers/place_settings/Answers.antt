use Rattle.std.proofs.Common.{arith, refl, ap, ◌∙◌}
use Rattle.numbering.specs.Parts.{grammar_in}
use Rattle.numbering.proofs.Calls.{known_in, few_nodes}
use Rattle.numbering.proofs.Firsts.{placing_none, placing_turn, placing_done}
use Rattle.numbering.proofs.numbers.place_settings.Goals as goal

pub loop-i-init : goal.loop-i-init
loop-i-init c = placing_none c.told-nodes

pub offset_bounds-nodes-i : goal.offset_bounds-nodes-i
offset_bounds-nodes-i c = omega (arith, few_nodes c.args.call.now)

pub bounds-nodes-i : goal.bounds-nodes-i
bounds-nodes-i c = omega (arith, few_nodes c.args.call.now)

pub left-requires : goal.left-requires
left-requires c = known_in c.args.call.now _ c.loop-i-test.true

pub overflow_add-next : goal.overflow_add-next
overflow_add-next c = omega (arith, c.width.ensures.few, c.loop-i.invariant.small, few_nodes c.args.call.now)

pub loop-i-preserved : goal.loop-i-preserved
loop-i-preserved c =
    placing_turn c.loop-i.invariant c.loop-i-test.true (c.width.ensures.is ∙ ap (λ k. (grammar_in c.args.call.now).settings k) c.left.ensures.is) c.width.ensures.few _ refl refl refl

pub returns-clause-placed : goal.returns-clause-placed
returns-clause-placed c = placing_done c.loop-i.invariant c.loop-i-test.false

pub returns-clause-others : goal.returns-clause-others
returns-clause-others c = c.loop-i.invariant.only
