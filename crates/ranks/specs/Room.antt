-- Refusals 12 and 13: whether the entries of the two tables exceed their slices.
use Rattle.std.specs.Prelude.{[], ℕ, ◌*◌, ◌≤◌, ◌<◌, Result}
use Rattle.lists.specs.Refusals.{Said, accepted, refused}
use Rattle.ranks.specs.Entries.{entry_bytes}
use Rattle.refusals.specs.declared.Refused.{Refused}
use Rattle.refusals.specs.Table.{said_by}

-- the entries exceed their slices, of so many bytes: the refusal's number and place. 13 is looked for where 12 does not apply
pub data Exceeds (up down ups downs : ℕ) : ℕ → ℕ → Type 0 where
  up_exceeds : up < ups → Exceeds up down ups downs 12 0
  down_exceeds : ups ≤ up → down < downs * entry_bytes → Exceeds up down ups downs 13 0

abbrev pub room_said : Result (Unit {0}) Refused → Said
room_said = said_by (λ _. [])

-- THE PROMISE of `room_for`: that refusal, or both have room
abbrev pub RoomDue : (up down ups downs : ℕ) → Said → Type 0
RoomDue up down ups downs (accepted counts) = (ups ≤ up) × (downs * entry_bytes ≤ down)
RoomDue up down ups downs (refused n p) = Exceeds up down ups downs n p
