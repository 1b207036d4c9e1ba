use Rattle.std.proofs.Common.{arith, ◌<◌}
use Rattle.book.specs.Format.{prods}
use Rattle.numbering.proofs.Calls.{prods_is}
use Rattle.numbering.proofs.Products.{summing_turn}
use Rattle.numbering.proofs.starts.starts.Goals as goal

pub overflow_cast-count : goal.overflow_cast-count
overflow_cast-count g c = omega (arith, (prods_is c.args.call.now c.productions-count.ensures).1)

pub bounds-starts-p : goal.bounds-starts-p
bounds-starts-p g c = omega (arith, (prods_is c.args.call.now c.productions-count.ensures).1)

pub loop-p-preserved : goal.loop-p-preserved
loop-p-preserved g c =
    let few = prods_is c.args.call.now c.productions-count.ensures in
    let here : c.loop-p.p < prods c.args.call.now.book.now = omega (arith, few.0) in
    summing_turn c.loop-p.invariant here (omega (arith, few.0, few.1)) c.entries-next.ensures (c.requires.small _ _ here c.entries-next.ensures)

pub returns : goal.returns
returns g c =
    λ S f e. record { each = λ p h. (c.loop-p.invariant.sums S f e).1 p (omega (arith, (prods_is c.args.call.now c.productions-count.ensures).0)) }
