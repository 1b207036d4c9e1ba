use mathlib.Core.Path.{◌∙◌}
use Rattle.text.proofs.Spelling.{digits_decimals}
use Rattle.text.proofs.digits.Goals as goal

pub returns : goal.returns
returns c =
    let d = c.decimal-count.ensures in
    d.digits ∙ digits_decimals _ _ d.len
