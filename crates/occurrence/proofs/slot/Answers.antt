use mathlib.Core.Path.{refl}
use Rattle.occurrence.proofs.slot.Goals as goal

pub returns : goal.returns
returns c = refl
