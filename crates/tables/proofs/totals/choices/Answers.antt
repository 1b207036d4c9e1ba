-- The number of a production's choices. Assumes nothing.
use Prim.Native.Nat.{◌<◌}
use native.Mathlib.Omega.{arith}
use Rattle.tables.proofs.EntryCounts.{none_chosen, choose_here, choose_fits, choose_turn, choose_done}
use Rattle.tables.proofs.totals.choices.Goals as goal

pub loop-child-init : goal.loop-child-init
loop-child-init c = none_chosen c.args.v c.args.counts.now

pub bounds-counts-child : goal.bounds-counts-child
bounds-counts-child c =
    let l : c.loop-child.child-index < c.args.v.arity = omega (arith, c.children-child-items.ensures.many) in
    choose_here c.requires c.loop-child.invariant l (c.children-child-items.ensures.each _ l)

pub overflow_mul-product : goal.overflow_mul-product
overflow_mul-product c =
    let l : c.loop-child.child-index < c.args.v.arity = omega (arith, c.children-child-items.ensures.many) in
    omega (arith, choose_fits c.requires c.loop-child.invariant l (c.children-child-items.ensures.each _ l))

pub loop-child-preserved : goal.loop-child-preserved
loop-child-preserved c =
    let l : c.loop-child.child-index < c.args.v.arity = omega (arith, c.children-child-items.ensures.many) in
    choose_turn c.requires c.loop-child.invariant l (c.children-child-items.ensures.each _ l)

pub returns : goal.returns
returns c = choose_done c.requires c.loop-child.invariant (omega (arith, c.children-child-items.ensures.many))
