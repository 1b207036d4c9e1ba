use Rattle.std.proofs.Common.{rules, refl}
use Rattle.ranks.specs.Entries.{down_start}
use Rattle.numbering.specs.Parts.{down_start_in}
use Rattle.numbering.proofs.starts.down_starts.Goals as goal

pub returns : goal.returns
unfolding down_start
returns c = c.starts.ensures (down_start_in c.args.call.now) (λ p n h post. search rules) refl
