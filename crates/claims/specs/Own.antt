-- A SHEET CALL WITH ITS OWN TABLES: what is guaranteed where the tables are those that a build of the call's own book left.
use Rattle.std.specs.Prelude.{List, ℕ, ◌*◌, ◌≤◌, ◌<◌, length}
use Rattle.lists.specs.Refusals.{accepted, refused}
use Rattle.book.specs.Format.{grammar}
use Rattle.sheet.specs.Reading.{all_settings}
use Rattle.sheet.specs.Refusals.{SheetDue}
use Rattle.numbering.specs.Walk.{Tables}
use Rattle.numbering.specs.Promise.{Lent, CallDue}

-- n₀ is what is lent to the call with the sheet l
pub record Never25 (b l : List ℕ) (T : Tables) (n₀ : Lent) : Type 0 where
  -- whatever it is refused with is below 25
  pub refused_below : (n : Lent) (number place : ℕ) → CallDue b l T n₀ (refused number place) n → number < 25
  -- a sheet that the sheet check accepts, with room for what is told of it, is accepted
  pub accepts : (checked : List ℕ) → SheetDue b l (accepted checked) → 3 * length l ≤ length n₀.nodes → all_settings (grammar b) l ≤ length n₀.groups
      → (counts : List ℕ) × (n : Lent) × CallDue b l T n₀ (accepted counts) n
