use Rattle.std.proofs.Common.{arith, refl}
use Rattle.numbering.proofs.Keeping.{plausible_at, end_at}
use Rattle.numbering.proofs.Calls.{kid_low}
use Rattle.numbering.proofs.Children.{child_low, gathering_none, gathering_turn, counts_done, ranks_done}
use Rattle.numbering.proofs.nodes.kin_of.Goals as goal

pub loop-j-init : goal.loop-j-init
loop-j-init c = gathering_none

pub bounds-nodes-at : goal.bounds-nodes-at
bounds-nodes-at c = child_low c.requires.children (rw (← c.kids-kind-items.ensures.are) c.loop-j-test.true) c.loop-j.invariant.stands

pub offset_bounds-nodes-at : goal.offset_bounds-nodes-at
offset_bounds-nodes-at c =
    let low = child_low c.requires.children (rw (← c.kids-kind-items.ensures.are) c.loop-j-test.true) c.loop-j.invariant.stands in
    omega (arith, low)

pub bounds-call-kind : goal.bounds-call-kind
bounds-call-kind c = omega (arith, kid_low c.args.call.now c.requires.known c.kids-kind-items.ensures.are c.loop-j.j, c.args.call.now.plausible_counted)

pub loop-j-preserved : goal.loop-j-preserved
loop-j-preserved c = gathering_turn c.loop-j.invariant (omega arith) _ refl (plausible_at c.args.nodes.now c.loop-j.at) (end_at c.args.nodes.now c.loop-j.at)

pub returns-clause-counts : goal.returns-clause-counts
returns-clause-counts c = counts_done c.loop-j.invariant c.kids-kind-items.ensures.are c.kids-kind-items.ensures.few (omega arith)

pub returns-clause-ranks : goal.returns-clause-ranks
returns-clause-ranks c = ranks_done c.loop-j.invariant c.kids-kind-items.ensures.are c.kids-kind-items.ensures.few (omega arith)
