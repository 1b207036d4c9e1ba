-- DEMAND 2, the sets: what stands below a kind's count is what is plausible for it, and what is feasible.
use mathlib.Core.Path.{subst}
use mathlib.Core.Logic.{◌↔◌}
use mathlib.Core.List.{List}
use Prim.Native.Nat.{ℕ, ◌*◌, ◌≤◌, ◌<◌}
use native.Mathlib.Omega.{arith}
use lib.ListN.{length, get_or}
use Rattle.lists.specs.Refusals.{accepted}
use Rattle.lists.proofs.Parts.{get_d_part}
use Rattle.lists.proofs.Places.{rising_at}
use Rattle.chains.specs.Limits.{max_members}
use Rattle.book.specs.Format.{grammar}
use Rattle.members.specs.Sets.{members, Has}
use Rattle.tables.specs.Sets.{Holds}
use Rattle.tables.specs.Promise.{Lent, BuildDue}
use Rattle.members.proofs.Ranked.{members_long, ranked_has, rank_of}
use Rattle.tables.proofs.Holds.{holds_placed}
use Rattle.tables.proofs.Promise.{plausible_there, plausible_here, feasible_there, feasible_here}
use Rattle.claims.specs.Sets.{StandsIn, InOrder, SetsAreRight}

module _ {n : ℕ} {P : ℕ → ℕ → Type 0} {s₀ c₀ s c : List ℕ} (there : n * max_members ≤ length s₀) (here : n ≤ length c₀) (held : Holds n P s₀ c₀ s c) where
  stands : (k x : ℕ) → k < n → StandsIn s c k x ↔ P k x
  stands k x h =
      let placed = holds_placed there here held k h in
      (λ (r, l, e). (held.exactly k x h).0 (subst (Has s c k) e (ranked_has placed r l)), λ p. rank_of placed ((held.exactly k x h).1 p))

  rises : (k : ℕ) → k < n → InOrder s c k
  rises k h r r' l l' =
      let placed = holds_placed there here held k h in
      let up = rising_at (members s c k) r r' (held.rising k h) l (rw (members_long placed) l') in
      rw (get_d_part (k * max_members) (get_or c k 0) s r 0 (omega arith), get_d_part (k * max_members) (get_or c k 0) s r' 0 l') at up

-- THEOREM: an accepted build leaves the sets of its book's grammar, and the entries that these give
pub sets_are_right : {b : List ℕ} {m₀ m : Lent} {entries : List ℕ} → BuildDue b m₀ (accepted entries) m → SetsAreRight (grammar b) m entries
sets_are_right {b} {m₀} {m} (free, u) = record {
  plausible = stands (plausible_there free) (plausible_here free) u.plausible;
  feasible = stands (feasible_there free) (feasible_here free) u.feasible;
  plausible_order = rises (plausible_there free) (plausible_here free) u.plausible;
  feasible_order = rises (feasible_there free) (feasible_here free) u.feasible;
  up = u.up;
  down = u.down;
  counted = u.counted;
}
