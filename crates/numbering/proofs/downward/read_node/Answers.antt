use Rattle.numbering.proofs.DownReads.{asked, read_none, read_high, read_good}
use Rattle.numbering.proofs.downward.read_node.Goals as goal

pub returns-in_err-entry : goal.returns-in_err-entry
returns-in_err-entry c =
    let a = asked c.requires.known c.requires.begins c.kin_of-kin.ensures.counts c.kin_of-kin.ensures.ranks in
    rw c.from_residual.ensures (read_none a c.read_down.ensures c.in_err-entry.was)

pub returns-then-not-hand_down : goal.returns-then-not-hand_down
returns-then-not-hand_down c =
    let a = asked c.requires.known c.requires.begins c.kin_of-kin.ensures.counts c.kin_of-kin.ensures.ranks in
    read_high a c.read_down.ensures c.in_ok-entry.was c.hand_down.ensures c.if-not-hand_down.true

pub returns : goal.returns
returns c =
    let a = asked c.requires.known c.requires.begins c.kin_of-kin.ensures.counts c.kin_of-kin.ensures.ranks in
    read_good a c.read_down.ensures c.in_ok-entry.was c.hand_down.ensures c.if-not-hand_down.false
