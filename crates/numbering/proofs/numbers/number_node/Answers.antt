-- A node's own settings hold their labels; then its children, one after another.
use Rattle.std.proofs.Common.{arith, refl, ap, ◌∙◌}
use Rattle.numbering.specs.Parts.{grammar_in}
use Rattle.numbering.proofs.Calls.{known_in, kid_low}
use Rattle.numbering.proofs.Families.{naming_none, naming_fits, naming_turn}
use Rattle.numbering.proofs.Instances.{ready_fits, instance}
use Rattle.numbering.proofs.numbers.number_node.Goals as goal

pub left-requires : goal.left-requires
left-requires c = known_in c.args.call.now _ c.requires.there

pub slice_bounds-hold_own-end : goal.slice_bounds-hold_own-end
slice_bounds-hold_own-end c = ready_fits c.requires (c.width-own.ensures.is ∙ ap (λ k. (grammar_in c.args.call.now).settings k) c.left.ensures.is)

pub kids-kind-items-requires : goal.kids-kind-items-requires
kids-kind-items-requires c = known_in c.args.call.now _ c.requires.there

pub loop-j-init : goal.loop-j-init
loop-j-init c = naming_none

pub width-width-requires : goal.width-width-requires
width-width-requires c = kid_low c.args.call.now (known_in c.args.call.now _ c.requires.there) c.kids-kind-items.ensures.are _ c.loop-j-test.true

pub slice_bounds-slot-end : goal.slice_bounds-slot-end
slice_bounds-slot-end c = naming_fits c.loop-j.invariant c.requires c.kids-kind-items.ensures.are c.loop-j-test.true c.width-width.ensures.is c.width-width.ensures.few

pub loop-j-preserved : goal.loop-j-preserved
loop-j-preserved c =
    naming_turn c.loop-j.invariant c.requires c.kids-kind-items.ensures.are c.loop-j-test.true c.width-width.ensures.is c.width-width.ensures.few refl (omega arith) c.number_slot-next.ensures
    c.number_slot-next.auto.groups refl

pub returns : goal.returns
returns c =
    let wide = c.width-own.ensures.is ∙ ap (λ k. (grammar_in c.args.call.now).settings k) c.left.ensures.is in
    instance c.requires wide refl (omega arith) c.told-holders (omega arith) refl c.hold_own.ensures c.loop-j.invariant c.kids-kind-items.ensures.are (omega arith)
