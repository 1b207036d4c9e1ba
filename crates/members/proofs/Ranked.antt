-- One kind's set: its members by rank.
use mathlib.Core.Path.{◌≡◌, sym, ◌∙◌, subst}
use mathlib.Core.List.{List}
use Prim.Native.Nat.{ℕ, ◌*◌, ◌<◌}
use native.Mathlib.Omega.{arith}
use lib.ListN.{length, get_or}
use Rattle.lists.specs.Rising.{Rising}
use Rattle.lists.proofs.Parts.{length_part, get_d_part}
use Rattle.lists.proofs.Places.{member_at, place_of, place_once}
use Rattle.chains.specs.Limits.{max_members}
use Rattle.members.specs.Sets.{members, Has, member, Placed}

module _ {s c : List ℕ} {k : ℕ} (h : Placed s c k) where
  pub members_long : length (members s c k) ≡ get_or c k 0
  members_long = length_part (k * max_members) (get_or c k 0) s (omega (arith, h.there, h.few))

  pub ranked_has : (r : ℕ) → r < get_or c k 0 → Has s c k (member s k r)
  ranked_has r l = subst (Has s c k) (get_d_part (k * max_members) (get_or c k 0) s r 0 l) (member_at (members s c k) r (omega (arith, members_long)))

  -- a member has a rank
  pub rank_of : {x : ℕ} → Has s c k x → (r : ℕ) × (r < get_or c k 0) × (member s k r ≡ x)
  rank_of m =
      let (r, l, e) = place_of (members s c k) m in
      let b : r < get_or c k 0 = omega (arith, members_long) in
      (r, b, sym (get_d_part (k * max_members) (get_or c k 0) s r 0 b) ∙ e)

  -- THEOREM: and only one
  pub rank_once : (r q : ℕ) → Rising (members s c k) → r < get_or c k 0 → q < get_or c k 0 → member s k r ≡ member s k q → r ≡ q
  rank_once r q m a b e =
      place_once (members s c k) r q m (omega (arith, members_long)) (omega (arith, members_long))
      (get_d_part (k * max_members) (get_or c k 0) s r 0 a ∙ e ∙ sym (get_d_part (k * max_members) (get_or c k 0) s q 0 b))
