-- What is watched downward: the left kind's count. Assumes nothing.
use Rattle.tables.proofs.DownwardSweep.{down_watched}
use Rattle.tables.proofs.downward.DownwardsPass.watched.Goals as goal

pub returns : goal.returns
returns c =
    let (w, l, h) = c.requires in
    rw (c.left.ensures, w.leans.0.each c.args.p l) (down_watched w.leans.0 w.leans.1 c.args.p c.args.counts.now)
