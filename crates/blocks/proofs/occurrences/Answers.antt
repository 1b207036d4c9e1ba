-- A bit is put in for each occurrence, from the first on.
use Rattle.std.proofs.Common.{arith}
use Rattle.std.proofs.lemmas.Bool.Decides.{nat_tests}
use Rattle.blocks.proofs.BitSets.{marked_more}
use Rattle.blocks.proofs.Carried.{block_full}
use Rattle.blocks.proofs.occurrences.Goals as goal

pub loop-o-preserved : goal.loop-o-preserved
loop-o-preserved c =
    marked_more c.loop-o.invariant c.from.result (omega arith) (grind (arith, nat_tests)) (λ h. grind (arith, nat_tests), λ h. grind (arith, nat_tests))

pub returns : goal.returns
returns c = block_full (omega arith) (λ h. omega arith) (omega arith) c.loop-o.invariant
