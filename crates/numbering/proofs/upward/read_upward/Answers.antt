use Rattle.std.proofs.Common.{arith, refl, ◌∙◌}
use Rattle.std.proofs.lemmas.Result.{err_from_is_err_and}
use Rattle.numbering.proofs.Passed.{ok_or_some, ok_or_none}
use Rattle.numbering.proofs.Calls.{few_prods, few_nodes}
use Rattle.numbering.proofs.UpReads.{going_none, going_inside, going_known, going_children, going_bad, going_end, going_turn, going_done}
use Rattle.numbering.proofs.upward.read_upward.Goals as goal

pub loop-i-init : goal.loop-i-init
loop-i-init c = going_none c.args.call.now c.told-nodes

pub kin_of-kin-requires-clause-known : goal.kin_of-kin-requires-clause-known
kin_of-kin-requires-clause-known c = going_known c.loop-i.invariant c.loop-i-test.true

pub kin_of-kin-requires-clause-children : goal.kin_of-kin-requires-clause-children
kin_of-kin-requires-clause-children c = going_children c.loop-i.invariant c.loop-i-test.true

pub bounds-starts-p : goal.bounds-starts-p
bounds-starts-p c = few_prods c.args.call.now (going_known c.loop-i.invariant c.loop-i-test.true)

pub read_node-requires : goal.read_node-requires
read_node-requires c = going_known c.loop-i.invariant c.loop-i-test.true

pub overflow_cast-i : goal.overflow_cast-i
overflow_cast-i c = omega (arith, few_nodes c.args.call.now)

pub returns-in_err-rank : goal.returns-in_err-rank
returns-in_err-rank c =
    let p = err_from_is_err_and c.from_residual.result c.from_residual.ensures.1 in
    let f = ok_or_none c.read_node.result c.at.result c.in_err-rank.ensures.value in
    let begins = c.up_starts-starts.ensures.each _ (going_known c.loop-i.invariant c.loop-i-test.true) in
    rw p.1 (going_bad c.loop-i.invariant c.loop-i-test.true begins c.kin_of-kin.ensures.counts c.kin_of-kin.ensures.ranks c.read_node.ensures f.0 _ (p.2 ∙ f.1 ∙ c.at.ensures))

pub overflow_cast-node : goal.overflow_cast-node
overflow_cast-node c =
    let begins = c.up_starts-starts.ensures.each _ (going_known c.loop-i.invariant c.loop-i-test.true) in
    omega (arith, going_end c.loop-i.invariant c.loop-i-test.true begins c.kin_of-kin.ensures.counts c.kin_of-kin.ensures.ranks)

pub bounds-nodes-i : goal.bounds-nodes-i
bounds-nodes-i c = going_inside c.loop-i.invariant c.loop-i-test.true

pub loop-i-preserved : goal.loop-i-preserved
loop-i-preserved c =
    let found = ok_or_some c.read_node.result c.at.result c.in_ok-rank.ensures.value in
    let begins = c.up_starts-starts.ensures.each _ (going_known c.loop-i.invariant c.loop-i-test.true) in
    going_turn c.loop-i.invariant c.loop-i-test.true begins c.kin_of-kin.ensures.counts c.kin_of-kin.ensures.ranks c.read_node.ensures found _ refl refl

pub returns : goal.returns
returns c = going_done c.loop-i.invariant c.loop-i-test.false
