use Rattle.std.proofs.Common.{arith, refl}
use Rattle.numbering.proofs.Calls.{kid_low}
use Rattle.numbering.proofs.Handing.{handing_none, handing_inside, handing_turn, handing_bad, handing_done}
use Rattle.numbering.proofs.downward.hand_down.Goals as goal

pub loop-j-init : goal.loop-j-init
loop-j-init c = handing_none c.told-nodes

pub bounds-call-kind : goal.bounds-call-kind
bounds-call-kind c = omega (arith, kid_low c.args.call.now c.requires.known c.kids-kind-items.ensures.are c.loop-j.j, c.args.call.now.feasible_counted)

pub returns-then-call-kind : goal.returns-then-call-kind
returns-then-call-kind c =
    handing_bad c.loop-j.invariant c.requires.children c.kids-kind-items.ensures.are c.loop-j-test.true c.child_rank-rank.ensures c.if-call-kind.true

pub offset_bounds-nodes-child : goal.offset_bounds-nodes-child
offset_bounds-nodes-child c = omega (arith, handing_inside c.loop-j.invariant c.requires.children c.kids-kind-items.ensures.are c.loop-j-test.true)

pub bounds-nodes-child : goal.bounds-nodes-child
bounds-nodes-child c = handing_inside c.loop-j.invariant c.requires.children c.kids-kind-items.ensures.are c.loop-j-test.true

pub loop-j-preserved : goal.loop-j-preserved
loop-j-preserved c =
    handing_turn c.loop-j.invariant c.requires.children c.kids-kind-items.ensures.are c.loop-j-test.true c.child_rank-rank.ensures c.if-call-kind.false _ refl refl refl refl

pub returns : goal.returns
returns c = handing_done c.loop-j.invariant c.requires.children c.kids-kind-items.ensures.are c.loop-j-test.false
