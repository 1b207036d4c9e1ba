use Rattle.std.proofs.Common.{rules, refl}
use Rattle.ranks.specs.Entries.{up_start}
use Rattle.numbering.specs.Parts.{up_start_in}
use Rattle.numbering.proofs.starts.up_starts.Goals as goal

pub returns : goal.returns
unfolding up_start
returns c = c.starts.ensures (up_start_in c.args.call.now) (λ p n h post. search rules) refl
