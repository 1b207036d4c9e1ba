use Rattle.std.proofs.Common.{arith, refl, ap, sym, ◌∙◌}
use Rattle.std.proofs.Math.Seq.{length-take-le}
use Rattle.numbering.specs.Parts.{grammar_in}
use Rattle.numbering.proofs.Calls.{some_nodes, known_in}
use Rattle.numbering.proofs.Walking.{walkable_still, given_still, root_inside, walking_begins, walking_ready, walking_turn, walking_done}
use Rattle.numbering.proofs.numbers.number_all.Goals as goal

pub bounds-call-0 : goal.bounds-call-0
bounds-call-0 c = some_nodes c.args.call.now

pub left-requires : goal.left-requires
left-requires c = known_in c.args.call.now 0 (some_nodes c.args.call.now)

pub slice_bounds-root-end : goal.slice_bounds-root-end
slice_bounds-root-end c = root_inside c.args.call.now c.requires.room (c.width-own.ensures.is ∙ ap (λ k. (grammar_in c.args.call.now).settings k) c.left.ensures.is)

pub slice_bounds-root-end-2 : goal.slice_bounds-root-end-2
slice_bounds-root-end-2 c =
    let wide = c.width-own.ensures.is ∙ ap (λ k. (grammar_in c.args.call.now).settings k) c.left.ensures.is in
    sym (length-take-le c.width-own.result c.args.groups.now (root_inside c.args.call.now c.requires.room wide))

pub loop-i-init : goal.loop-i-init
loop-i-init c =
    let wide = c.width-own.ensures.is ∙ ap (λ k. (grammar_in c.args.call.now).settings k) c.left.ensures.is in
    walking_begins c.requires.room wide refl c.number_slot-next.ensures c.number_slot-next.auto.groups

pub number_node-next-requires : goal.number_node-next-requires
number_node-next-requires c =
    let o = c.place_settings.ensures in
    walking_ready c.loop-i.invariant (walkable_still o.others c.requires.walkable) c.loop-i-test.true o.placed

pub loop-i-preserved : goal.loop-i-preserved
loop-i-preserved c = walking_turn c.loop-i.invariant c.loop-i-test.true c.number_node-next.ensures

pub returns : goal.returns
returns c = given_still c.place_settings.ensures.others (walking_done c.loop-i.invariant (omega arith))
