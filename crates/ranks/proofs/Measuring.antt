-- The measure of the two tables has one answer.
use mathlib.Core.Path.{◌≡◌, refl}
use mathlib.Core.List.{[]}
use Prim.Native.Nat.{ℕ, ◌*◌, ◌≤◌}
use native.Mathlib.Omega.{arith}
use Rattle.std.specs.Prelude.{Result, Ok, Err}
use Rattle.lists.specs.Refusals.{refused}
use Rattle.refusals.specs.declared.Refused.{Refused}
use Rattle.refusals.proofs.Once.{said_by_once}
use Rattle.ranks.specs.Entries.{entry_bytes}
use Rattle.ranks.specs.Room.{Exceeds, up_exceeds, down_exceeds, room_said, RoomDue}

module _ {up down ups downs : ℕ} where
  exceeds_once : {n p m q : ℕ} → Exceeds up down ups downs n p → Exceeds up down ups downs m q → refused n p ≡ refused m q
  exceeds_once (up_exceeds h) (up_exceeds k) = refl
  exceeds_once (up_exceeds h) (down_exceeds l k) = absurd (omega arith)
  exceeds_once (down_exceeds l h) (up_exceeds k) = absurd (omega arith)
  exceeds_once (down_exceeds l h) (down_exceeds k m) = refl

  room_or_not : {n p : ℕ} → Exceeds up down ups downs n p → (ups ≤ up) × (downs * entry_bytes ≤ down) → ⊥
  room_or_not (up_exceeds h) k = omega (arith, k.0)
  room_or_not (down_exceeds l h) k = omega (arith, k.1)

-- THEOREM: two answers are the same
pub room_once : (up down ups downs : ℕ) (r s : Result (Unit {0}) Refused) → RoomDue up down ups downs (room_said r) → RoomDue up down ups downs (room_said s) → r ≡ s
room_once up down ups downs (Ok a) (Ok b) x y = refl
room_once up down ups downs (Ok a) (Err s) x y = absurd (room_or_not y x)
room_once up down ups downs (Err r) (Ok b) x y = absurd (room_or_not x y)
room_once up down ups downs (Err r) (Err s) x y = said_by_once (λ a. []) (λ l. tt) (λ a. refl) (Err r) (Err s) (exceeds_once x y)
