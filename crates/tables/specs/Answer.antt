-- What the build's answer says, in the paper's numbers, and the lent memory as one value.
use Rattle.std.specs.Prelude.{List, [], ◌∷◌, ℕ, Result}
use Rattle.lists.specs.Refusals.{Said}
use Rattle.refusals.specs.Table.{said_by}
use Rattle.refusals.specs.declared.Refused.{Refused}
use Rattle.tables.specs.Promise.{Lent}
use Rattle.tables.specs.declared.Counts.{Counts}

abbrev pub said : Result Counts Refused → Said
said = said_by (λ c. c.up ∷ c.down ∷ [])

abbrev pub lent : (plausible plausible_counts feasible feasible_counts up down : List ℕ) → Lent
lent s c f d u w = record { plausible = s; plausible_counts = c; feasible = f; feasible_counts = d; up = u; down = w }
