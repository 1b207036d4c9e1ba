-- One kind's set copied into cleared memory.
use mathlib.Core.Path.{◌≡◌, sym, ap, ap₂, ◌∙◌}
use mathlib.Core.List.Memᴰ
use mathlib.Core.List.{List, []}
use Prim.Native.Nat.{ℕ, ◌+◌, ◌*◌, ◌≤◌, ◌<◌}
use native.Mathlib.Omega.{arith}
use native.Mathlib.Decide.{dec_lt}
use lib.ListN.{length, get_or, set, length-set}
use lib.Seq.{get_or-set_same, get_or-set_other, set-get_or}
use Rattle.lists.specs.Part.{part}
use Rattle.lists.specs.Rising.{Rising, none}
use Rattle.lists.proofs.Order.{by_order}
use Rattle.lists.proofs.Parts.{place_long, place_this, get_d_before, get_d_after}
use Rattle.lists.proofs.Room.{room_falls}
use Rattle.chains.specs.Limits.{max_members}
use Rattle.members.specs.Sets.{members, Has, member}
use Rattle.tables.specs.Memory.{Fine, Kept, room}
use Rattle.zeros.specs.Zeros.{cleared}
use Rattle.tables.specs.Downward.{Seeded}
use Rattle.members.proofs.Ranked.{members_long}
use Rattle.zeros.proofs.Cleared.{cleared_long, cleared_at}
use Rattle.tables.proofs.Memory.{fine_placed, every}

module _ {n k : ℕ} {P : ℕ → ℕ → Type 0} (f₀ d₀ : List ℕ) {s c f d : List ℕ} (there : n * max_members ≤ length f₀) (here : n ≤ length d₀) (low : k < n) (g : Fine n P s c)
    (o : Seeded k s c (cleared (n * max_members) f₀) (cleared n d₀) f d) where
  abbrev F : List ℕ
  F = cleared (n * max_members) f₀

  abbrev D : List ℕ
  D = cleared n d₀

  long : length F ≡ length f₀
  long = cleared_long (n * max_members) f₀ there

  long_c : length D ≡ length d₀
  long_c = cleared_long n d₀ here

  size : length (members s c k) ≡ get_or c k 0
  size = members_long (fine_placed g k low)

  few : get_or c k 0 ≤ max_members
  few = g.few k low

  fits : k * max_members + length (members s c k) ≤ length F
  fits = omega (arith, long, size, few)

  this_count : get_or d k 0 ≡ get_or c k 0
  this_count = ap (λ (u : List ℕ). get_or u k 0) o.counted ∙ get_or-set_same D k (get_or c k 0) 0 (omega (arith, long_c))

  other_count : (j : ℕ) → (j ≡ k → ⊥) → get_or d j 0 ≡ get_or D j 0
  other_count j z = ap (λ (u : List ℕ). get_or u j 0) o.counted ∙ get_or-set_other D k j (get_or c k 0) 0 z

  no_count : (j : ℕ) → j < n → (j ≡ k → ⊥) → get_or d j 0 ≡ 0
  no_count j h z = other_count j z ∙ cleared_at n d₀ j h

  this_set : members f d k ≡ members s c k
  this_set = ap₂ (λ (i : ℕ) (u : List ℕ). part (k * max_members) i u) (this_count ∙ sym size) o.held ∙ place_this F (k * max_members) (members s c k) fits

  no_set : (j : ℕ) → j < n → (j ≡ k → ⊥) → members f d j ≡ []
  no_set j h z = rw (no_count j h z)

  before : (i : ℕ) → i < k * max_members → get_or f i 0 ≡ get_or F i 0
  before i h = ap (λ (u : List ℕ). get_or u i 0) o.held ∙ get_d_before F (k * max_members) (members s c k) fits i 0 h

  after : (i : ℕ) → k * max_members + get_or c k 0 ≤ i → get_or f i 0 ≡ get_or F i 0
  after i h = ap (λ (u : List ℕ). get_or u i 0) o.held ∙ get_d_after F (k * max_members) (members s c k) fits i 0 (omega (arith, size))

  empty_at : (i : ℕ) → i < n * max_members → get_or F i 0 ≡ 0
  empty_at i h = cleared_at (n * max_members) f₀ i h

  pub seeded_has : (x : ℕ) → Has s c k x → Has f d k x
  seeded_has x m = rw this_set m

  pub seeded_fine : {Q : ℕ → ℕ → Type 0} → ((x : ℕ) → P k x → Q k x) → Fine n Q f d
  seeded_fine {Q} q = record {
    there = omega (arith, ap length o.held ∙ place_long F (k * max_members) (members s c k) fits, long);
    here = omega (arith, ap length o.counted ∙ length-set D k (get_or c k 0), long_c);
    few = every k (λ j. j < n → get_or d j 0 ≤ max_members) (λ h. rw this_count few) (λ j z h. rw (no_count j h z) (omega arith));
    rising = every k (λ j. j < n → Rising (members f d j)) (λ h. rw this_set (g.rising k low)) (λ j z h. rw (no_set j h z) none);
    only = λ j x. every k (λ j. j < n → Has f d j x → Q j x) (λ h m. q x (g.only k x low (rw this_set at m)))
        (λ j z h m. absurd (Memᴰ.not-nil (rw (no_set j h z) at m))) j;
    blank = λ j i. every k (λ j. j < n → get_or d j 0 ≤ i → i < max_members → member f j i ≡ 0)
        (λ h b e. after (k * max_members + i) (omega (arith, this_count)) ∙ empty_at (k * max_members + i) (omega arith))
        (λ j z h b e. by_order (member f j i ≡ 0) j k (λ y. absurd (z y)) (λ y. before (j * max_members + i) (omega arith) ∙ empty_at (j * max_members + i) (omega arith))
        (λ y. after (j * max_members + i) (omega (arith, few)) ∙ empty_at (j * max_members + i) (omega arith))) j;
  }

  pub seeded_kept : Kept n F D f d
  seeded_kept = record {
    long = ap length o.held ∙ place_long F (k * max_members) (members s c k) fits;
    long_c = ap length o.counted ∙ length-set D k (get_or c k 0);
    beyond = λ i h. after i (omega (arith, few));
    beyond_c = λ j h. other_count j (λ e. omega arith);
    grows = every k (λ j. get_or D j 0 ≤ get_or d j 0) (omega (arith, this_count, cleared_at n d₀ k low)) (λ j z. omega (arith, other_count j z));
    less = go (dec_lt 0 (get_or c k 0));
    stays = λ j x h m. absurd (Memᴰ.not-nil (rw (cleared_at n d₀ j h) at m));
  }
    where
      go : Dec (0 < get_or c k 0) → room d ≤ room D
      go (yes h) = rw o.counted (let z = room_falls max_members D k (get_or c k 0) (omega (arith, long_c)) (omega (arith, cleared_at n d₀ k low)) few in omega arith)
      go (no h) =
          let e : get_or c k 0 ≡ get_or D k 0 = omega (arith, cleared_at n d₀ k low) in
          rw (o.counted ∙ ap (set D k) e ∙ set-get_or D k 0) (omega arith)
