-- A visit of the upward pass. Assumes nothing.
use Rattle.tables.proofs.Gathering.{fine_own}
use Rattle.tables.proofs.StateBase.{few_kids}
use Rattle.tables.proofs.UpwardVisit.{slot_placed, up_prepared, up_gathers}
use Rattle.tables.proofs.UpwardSweep.{up_served}
use Rattle.tables.proofs.upward.UpwardsPass.serve.Goals as goal

pub prepare_up-requires : goal.prepare_up-requires
prepare_up-requires c =
    let (w, l, f) = c.requires in
    let o = w.leans in
    rw (o.each c.args.p l) (few_kids o.book c.args.p l, slot_placed o.book c.args.p l f)

pub make-requires : goal.make-requires
make-requires c =
    let (w, l, f) = c.requires in
    let o = w.leans in
    rw (o.each c.args.p l) (up_prepared o.book c.args.p l (fine_own f) (rw (o.each c.args.p l) at c.prepare_up.ensures))

pub returns : goal.returns
returns c =
    let (w, l, f) = c.requires in
    let o = w.leans in
    let v = rw (o.each c.args.p l) at c.prepare_up.ensures in
    up_served o c.args.p l c.make.result f (up_gathers o.book c.args.p l (fine_own f) v (rw (o.each c.args.p l) at c.make.ensures))
