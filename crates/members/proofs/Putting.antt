-- The exits of putting a number into a kind's set.
use mathlib.Core.Path.{◌≡◌, refl, ap}
use mathlib.Core.List.{List}
use mathlib.Core.Bool.{Bool, true, false}
use Prim.Native.Nat.{ℕ, suc, ◌+◌, ◌*◌, ◌≤◌, ◌<◌}
use native.Mathlib.Omega.{arith}
use lib.ListN.{length, get_or, set}
use Rattle.std.specs.Prelude.{Option, Ok, Err}
use Rattle.std.specs.Option.{is_some}
use Rattle.lists.specs.Inserted.{Inserted}
use Rattle.chains.specs.Limits.{max_members}
use Rattle.members.specs.Sets.{Has, Placed, Sought, Tried}
use Rattle.members.proofs.Seeking.{search_has, search_none}

module _ (k : ℕ) {x : ℕ} {r : Option ℕ} {s c : List ℕ} (p : Placed s c k) (h : Sought s (k * max_members) (get_or c k 0) x r) where
  fits : k * max_members + get_or c k 0 ≤ length s
  fits = omega (arith, p.there, p.few)

  pub put_old : is_some r ≡ true → Tried k x s c s c (Ok false)
  put_old e = record { case = (refl, refl, search_has s _ _ x r fits (h.there fits) e) }

  module _ (e : is_some r ≡ false) where
    is_new : Has s c k x → ⊥
    is_new = search_none s _ _ x r fits (h.there fits) e

    pub put_full : get_or c k 0 ≡ max_members → Tried k x s c s c (Err (record {}))
    put_full f = record { case = (refl, refl, f, is_new) }

    pub put_new : {v : ℕ} {s' : List ℕ} {q : Bool} → get_or c k 0 < max_members → v ≡ suc (get_or c k 0)
        → Inserted (k * max_members) (get_or c k 0) x s s' q → Tried k x s c s' (set c k v) (Ok true)
    put_new f w t = record { case = record { free = f; new = is_new; held = t.held; counted = ap (set c k) w } }
