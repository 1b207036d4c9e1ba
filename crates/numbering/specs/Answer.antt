-- What the sheet call's answer says, in the paper's numbers.
use Rattle.std.specs.Prelude.{Result, [], ◌∷◌}
use Rattle.lists.specs.Refusals.{Said}
use Rattle.refusals.specs.Table.{said_by}
use Rattle.refusals.specs.declared.Refused.{Refused}
use Rattle.numbering.specs.declared.Counts.{Counts}

abbrev pub said : Result Counts Refused → Said
said = said_by (λ (c : Counts). c.nodes ∷ c.settings ∷ c.groups ∷ [])
