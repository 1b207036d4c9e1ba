-- Both tables are counted, held against their slices, and written. Assumes nothing.
use Rattle.tables.proofs.EntryCounts.{fine_small}
use Rattle.tables.proofs.FillUp.{up_choosable, up_room, up_done}
use Rattle.tables.proofs.FillDown.{down_choosable, down_room, down_done}
use Rattle.tables.proofs.BuildSteps.{tabled}
use Rattle.tables.proofs.making.write_tables.Goals as goal

pub totals-all-requires : goal.totals-all-requires
totals-all-requires c =
    let (o, s) = c.requires in
    (o, fine_small s.plausible.fine, fine_small s.feasible.fine)

pub fill-requires : goal.fill-requires
fill-requires c =
    let (o, s) = c.requires in
    (o, up_choosable o.book s.plausible, up_room o.book s.plausible c.totals-all.ensures.0 c.in_ok-room_for.ensures.0)

pub fill-requires-2 : goal.fill-requires-2
fill-requires-2 c =
    let (o, s) = c.requires in
    (o, down_choosable o.book s.plausible s.feasible, down_room o.book s.plausible s.feasible c.totals-all.ensures.1 c.in_ok-room_for.ensures.1)

pub returns : goal.returns
returns c =
    let (o, s) = c.requires in
    tabled c.totals-all.ensures c.in_ok-room_for.ensures (up_done o.book s.plausible c.fill.ensures) (down_done o.book s.plausible s.feasible c.fill-2.ensures)
