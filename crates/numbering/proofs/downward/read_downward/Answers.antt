use Rattle.std.proofs.Common.{arith, refl, ◌∙◌}
use Rattle.std.proofs.lemmas.Result.{err_from_is_err_and}
use Rattle.numbering.proofs.Passed.{ok_or_some, ok_or_none}
use Rattle.numbering.proofs.Calls.{tree_in, known_in, few_prods, few_nodes}
use Rattle.numbering.proofs.DownReads.{going_none, going_children, going_bad, going_turn, going_done}
use Rattle.numbering.proofs.downward.read_downward.Goals as goal

pub loop-i-init : goal.loop-i-init
loop-i-init c = going_none c.told-nodes

pub bounds-starts-p : goal.bounds-starts-p
bounds-starts-p c = few_prods c.args.call.now (known_in c.args.call.now _ c.loop-i-test.true)

pub read_node-requires-clause-known : goal.read_node-requires-clause-known
read_node-requires-clause-known c = known_in c.args.call.now _ c.loop-i-test.true

pub read_node-requires-clause-begins : goal.read_node-requires-clause-begins
read_node-requires-clause-begins c = c.down_starts-starts.ensures.each _ (known_in c.args.call.now _ c.loop-i-test.true)

pub read_node-requires-clause-children : goal.read_node-requires-clause-children
read_node-requires-clause-children c =
    let t = tree_in c.args.call.now in
    going_children c.loop-i.invariant t (c.requires t) c.loop-i-test.true

pub overflow_cast-i : goal.overflow_cast-i
overflow_cast-i c = omega (arith, few_nodes c.args.call.now)

pub returns-in_err-entry : goal.returns-in_err-entry
returns-in_err-entry c =
    let p = err_from_is_err_and c.from_residual.result c.from_residual.ensures.1 in
    let f = ok_or_none c.read_node.result c.at.result c.in_err-entry.ensures.value in
    rw p.1 (going_bad c.loop-i.invariant c.loop-i-test.true c.read_node.ensures f.0 _ (p.2 ∙ f.1 ∙ c.at.ensures))

pub bounds-nodes-i : goal.bounds-nodes-i
bounds-nodes-i c = omega (arith, few_nodes c.args.call.now)

pub loop-i-preserved : goal.loop-i-preserved
loop-i-preserved c =
    let found = ok_or_some c.read_node.result c.at.result c.in_ok-entry.ensures.value in
    going_turn c.loop-i.invariant c.loop-i-test.true c.read_node.ensures found _ refl refl refl refl c.read_node.array_long

pub returns : goal.returns
returns c = going_done c.loop-i.invariant c.loop-i-test.false
