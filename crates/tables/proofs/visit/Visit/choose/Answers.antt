-- A turn of a visit, on one state. Assumes nothing.
use mathlib.Core.Path.{ap, ◌∙◌}
use Rattle.tables.specs.State.{tidied}
use Rattle.tables.proofs.Choosing.{chosen_dropped, chosen_kept}
use Rattle.tables.proofs.visit.Visit.choose.Goals.{then-turn-self, else-turn-self}
use Rattle.tables.proofs.visit.Visit.choose.Goals as goal

pub returns : goal.returns
returns c =
    elim c.if-turn-self.branch [
      | then-turn-self w ↦ chosen_dropped c.requires.0 c.requires.2 c.args.code c.tie.ensures w.if-turn-self.true w.forget.ensures (c.tidy.ensures ∙ ap tidied w.t-is)
      | else-turn-self w ↦ chosen_kept c.requires.0 c.requires.2 c.args.code c.tie.ensures w.if-turn-self.false (c.tidy.ensures ∙ ap tidied w.t-is)
    ]
