-- What the admission's answer says, in the paper's numbers: it counts what the check of the sheet counts.
use Rattle.std.specs.Prelude.{Result}
use Rattle.lists.specs.Refusals.{Said}
use Rattle.refusals.specs.declared.Refused.{Refused}
use Rattle.sheet.specs.Answer as sheet
use Rattle.sheet.specs.declared.Counts.{Counts}

abbrev pub said : Result Counts Refused → Said
said = sheet.said
