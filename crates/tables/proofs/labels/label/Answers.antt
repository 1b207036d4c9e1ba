-- A label of a code: three bits, by shift and mask. Assumes nothing.
use Prim.Native.Nat.{◌^◌, ◌/◌}
use lib.Bits.{and_mask}
use Rattle.tables.proofs.StateLoops.{two_eight}
use Rattle.tables.proofs.labels.label.Goals as goal

pub returns : goal.returns
returns c = rw two_eight (and_mask (c.args.code / 8 ^ c.args.x) 3)
