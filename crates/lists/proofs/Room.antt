-- Where a count grows within its places, less room is left: the number that falls from sweep to sweep.
use mathlib.Core.List.{List, [], ◌∷◌}
use Prim.Native.Nat.{ℕ, zero, suc, ◌<◌, ◌≤◌}
use native.Mathlib.Omega.{arith}
use lib.ListN.{length, get_or, set}
use Rattle.lists.specs.Room.{room}

pub room_falls : (cap : ℕ) (c : List ℕ) (k v : ℕ) → k < length c → get_or c k 0 < v → v ≤ cap → room cap (set c k v) < room cap c
unfolding room
room_falls cap [] k v h l m = absurd (omega arith)
room_falls cap (x ∷ c) zero v h l m = omega arith
room_falls cap (x ∷ c) (suc k) v h l m = let i = room_falls cap c k v (omega arith) l m in omega arith
