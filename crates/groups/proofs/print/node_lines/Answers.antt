use native.Mathlib.Omega.{arith}
use Rattle.sheet.proofs.Accepted.{book_accepted, byte_low}
use Rattle.groups.proofs.Printing.{listing_begun, own_left, listing_turn}
use Rattle.groups.proofs.print.node_lines.Goals as goal

pub loop-i-init : goal.loop-i-init
loop-i-init c = listing_begun _ _ _ _

pub settings-requires : goal.settings-requires
settings-requires c = (book_accepted _ c.requires.fits.sound, c.index-places.ensures, byte_low c.requires.fits.drawn c.loop-i.i c.loop-i-test.true)

pub split_at-requires : goal.split_at-requires
split_at-requires c = own_left c.requires c.loop-i.invariant c.loop-i-test.true c.settings.ensures

pub node_line-requires : goal.node_line-requires
node_line-requires c = omega (arith, c.requires.nodes, c.loop-i-test.true)

pub loop-i-preserved : goal.loop-i-preserved
loop-i-preserved c = listing_turn c.loop-i.invariant c.loop-i-test.true c.settings.ensures c.split_at.ensures.front c.split_at.ensures.back c.node_line.ensures
