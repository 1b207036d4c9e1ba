-- Sets that hold exactly what has P: how a pass comes to them, and that they are pinned, every place of the lent memory.
use mathlib.Core.Path.{◌≡◌, sym, ap, ◌∙◌, subst}
use mathlib.Core.List.Memᴰ
use mathlib.Core.List.{List, [], Memᴰ}
use Prim.Native.Nat.{ℕ, ◌+◌, ◌*◌, ◌/◌, ◌%◌, ◌≤◌, ◌<◌}
use native.Mathlib.Omega.{arith}
use native.Mathlib.Decide.{dec_le}
use lib.ListN.{length, get_or}
use lib.Seq.{ext_get_or}
use Rattle.lists.specs.Rising.{Rising, none}
use Rattle.lists.proofs.Parts.{get_d_part}
use Rattle.lists.proofs.Rising.{pinned, rising_fewer}
use Rattle.chains.specs.Limits.{max_members}
use Rattle.members.specs.Sets.{members, Has, member, Placed}
use Rattle.tables.specs.Sets.{Over, Holds}
use Rattle.tables.specs.Promise.{Counted}
use Rattle.tables.specs.Memory.{Fine, Kept}
use Rattle.zeros.specs.Zeros.{cleared}
use Rattle.members.proofs.Ranked.{members_long}
use Rattle.zeros.proofs.Cleared.{cleared_long, cleared_at, cleared_past}

-- ── from cleared memory to the sets ──
module _ (n : ℕ) (s₀ c₀ : List ℕ) (there : n * max_members ≤ length s₀) (here : n ≤ length c₀) where
  no_members : (k : ℕ) → k < n → members (cleared (n * max_members) s₀) (cleared n c₀) k ≡ []
  no_members k h = rw (cleared_at n c₀ k h)

  pub cleared_fine : (P : ℕ → ℕ → Type 0) → Fine n P (cleared (n * max_members) s₀) (cleared n c₀)
  cleared_fine P = record {
    there = rw (cleared_long (n * max_members) s₀ there) there;
    here = rw (cleared_long n c₀ here) here;
    few = λ k h. rw (cleared_at n c₀ k h) (omega arith);
    rising = λ k h. subst Rising (sym (no_members k h)) none;
    only = λ k x h m. absurd (Memᴰ.not-nil (subst (Memᴰ x) (no_members k h) m));
    blank = λ k i h l b. cleared_at (n * max_members) s₀ (k * max_members + i) (omega arith);
  }

-- the lent memory s₀, c₀ has places for n kinds
module _ {n : ℕ} {P : ℕ → ℕ → Type 0} {s₀ c₀ : List ℕ} (there : n * max_members ≤ length s₀) (here : n ≤ length c₀) where
  -- THEOREM: a pass that has everything of P in has what it is to hold
  pub fine_holds : {s c : List ℕ} → Kept n (cleared (n * max_members) s₀) (cleared n c₀) s c → Fine n P s c
      → ((k x : ℕ) → k < n → P k x → Has s c k x) → Holds n P s₀ c₀ s c
  fine_holds u f all = record {
    long = u.long ∙ cleared_long (n * max_members) s₀ there;
    long_c = u.long_c ∙ cleared_long n c₀ here;
    few = f.few;
    rising = f.rising;
    exactly = λ k x h. (f.only k x h, all k x h);
    blank = f.blank;
    beyond = λ i l. u.beyond i l ∙ cleared_past (n * max_members) s₀ i l;
    beyond_c = λ k l. u.beyond_c k l ∙ cleared_past n c₀ k l;
  }

  -- ── what is held is pinned ──
  pub holds_placed : {s c : List ℕ} → Holds n P s₀ c₀ s c → (k : ℕ) → k < n → Placed s c k
  holds_placed t k h = record { there = omega (arith, t.long); here = omega (arith, t.long_c); few = t.few k h }

  pub holds_fine : {s c : List ℕ} → Holds n P s₀ c₀ s c → Fine n P s c
  holds_fine t = record {
    there = rw t.long there;
    here = rw t.long_c here;
    few = t.few;
    rising = t.rising;
    only = λ k x h. (t.exactly k x h).0;
    blank = t.blank;
  }

  pub holds_counted : {s c : List ℕ} → Holds n P s₀ c₀ s c → Counted n P c
  holds_counted {s} {c} t k h = (members s c k, t.rising k h, λ x. t.exactly k x h, members_long (holds_placed t k h))

  module _ {s c s' c' : List ℕ} (t : Holds n P s₀ c₀ s c) (t' : Holds n P s₀ c₀ s' c') where
    same_set : (k : ℕ) → k < n → members s c k ≡ members s' c' k
    same_set k h =
        pinned (P k) (members s c k) (members s' c' k) (t.rising k h) (t'.rising k h)
        (λ x. (t.exactly k x h).0) (λ x. (t.exactly k x h).1) (λ x. (t'.exactly k x h).0) (λ x. (t'.exactly k x h).1)

    same_count : (k : ℕ) → get_or c k 0 ≡ get_or c' k 0
    same_count k = go (dec_le n k)
      where
        go : Dec (n ≤ k) → get_or c k 0 ≡ get_or c' k 0
        go (yes h) = t.beyond_c k h ∙ sym (t'.beyond_c k h)
        go (no h) =
            let l : k < n = omega arith in
            sym (members_long (holds_placed t k l)) ∙ ap length (same_set k l) ∙ members_long (holds_placed t' k l)

    same_member : (k r : ℕ) → k < n → r < max_members → member s k r ≡ member s' k r
    same_member k r h l = go (dec_le (get_or c k 0) r)
      where
        go : Dec (get_or c k 0 ≤ r) → member s k r ≡ member s' k r
        go (yes z) = t.blank k r h z l ∙ sym (t'.blank k r h (omega (arith, same_count k)) l)
        go (no z) =
            let a : r < get_or c k 0 = omega arith in
            let b : r < get_or c' k 0 = omega (arith, same_count k) in
            sym (get_d_part (k * max_members) (get_or c k 0) s r 0 a) ∙ ap (λ (u : List ℕ). get_or u r 0) (same_set k h) ∙ get_d_part (k * max_members) (get_or c' k 0) s' r 0 b

    same_place : (i : ℕ) → get_or s i 0 ≡ get_or s' i 0
    same_place i = go (dec_le (n * max_members) i)
      where
        go : Dec (n * max_members ≤ i) → get_or s i 0 ≡ get_or s' i 0
        go (yes h) = t.beyond i h ∙ sym (t'.beyond i h)
        go (no h) =
            let e : i / max_members * max_members + i % max_members ≡ i = omega arith in
            rw e at (same_member (i / max_members) (i % max_members) (omega arith) (omega arith))

    -- THEOREM: sets that hold the same, over the same lent memory, are the same
    pub holds_once : (s ≡ s') × (c ≡ c')
    holds_once = (ext_get_or 0 s s' (t.long ∙ sym t'.long) (λ i h. same_place i), ext_get_or 0 c c' (t.long_c ∙ sym t'.long_c) (λ k h. same_count k))

  -- THEOREM: what is held is not over-full
  pub over_never : {s c : List ℕ} → Holds n P s₀ c₀ s c → Over n P → ⊥
  over_never {s} {c} t o =
      let k = o.kind in
      let h = rising_fewer o.list (members s c k) o.rising (t.rising k o.below) (λ x q. (t.exactly k x o.below).1 (o.all x q)) in
      let l = members_long (holds_placed t k o.below) in
      let f = t.few k o.below in
      omega (arith, o.many)

-- THEOREM: what has P is counted in one way
pub counted_once : {n : ℕ} (P : ℕ → ℕ → Type 0) (c c' : List ℕ) → Counted n P c → Counted n P c' → (k : ℕ) → k < n → get_or c k 0 ≡ get_or c' k 0
counted_once P c c' a b k h =
    let (l, r, e, n) = a k h in
    let (m, q, d, o) = b k h in
    sym n ∙ ap length (pinned (P k) l m r q (λ x. (e x).0) (λ x. (e x).1) (λ x. (d x).0) (λ x. (d x).1)) ∙ o
