-- The laws of sweeps: what was served stays so; where the watched kinds have no member more, it is served for the sets as they stand; and marks
-- hold on.
use mathlib.Core.Path.{◌≡◌, refl, ap, ap₂, ◌∙◌, subst}
use mathlib.Core.Logic.{inl, inr}
use mathlib.Core.Bool.{Bool, false, ◌||◌}
use mathlib.Core.List.{List, Memᴰ}
use Prim.Native.Nat.{ℕ, zero, suc, ◌+◌, ◌*◌, ◌≤◌, ◌<◌}
use native.Mathlib.Numerals.{add-one}
use native.Mathlib.Omega.{arith}
use native.Mathlib.Decide.{ℕ_discrete}
use lib.ListN.{length, get_or, set, take, replicate, length-set, length-replicate, get_or-replicate}
use lib.Seq.{get_or-set_same, get_or-set_other, get_or-take, length-take-le}
use Rattle.std.specs.Prelude.{Ok}
use Rattle.lists.proofs.Order.{by_order}
use Rattle.chains.specs.Limits.{max_prods, max_members}
use Rattle.members.specs.Sets.{Has}
use Rattle.tables.specs.Sets.{Holds}
use Rattle.tables.specs.Memory.{Fine, Kept, Turned}
use Rattle.tables.specs.Visit.{Gathered}
use Rattle.tables.specs.Sweep.{Steps, Lawful, Since, Served, total, Marked, AllMarked, Attended, Exact}
use Rattle.tables.proofs.Memory.{kept_refl, kept_trans, equal_counts, turned_map}
use Rattle.tables.proofs.Rounds.{Round, round_next}
use Rattle.tables.proofs.Holds.{holds_fine}
use Rattle.tables.proofs.Gathering.{fine_own}

-- ---- sums of counts
pub total_none : (c : List ℕ) (watch : ℕ → ℕ) → total c watch 0 ≡ 0
unfolding total
total_none c watch = refl

pub total_more : (c : List ℕ) (watch : ℕ → ℕ) (w : ℕ) → total c watch (w + 1) ≡ total c watch w + get_or c (watch w) 0
unfolding total
total_more c watch w = rw (add-one w)

pub total_agree : (c : List ℕ) (f g : ℕ → ℕ) (w : ℕ) → ((i : ℕ) → i < w → f i ≡ g i) → total c f w ≡ total c g w
unfolding total
total_agree c f g zero h = refl
total_agree c f g (suc w) h = ap₂ ◌+◌ (total_agree c f g w (λ i l. h i (omega arith))) (ap (λ (k : ℕ). get_or c k 0) (h w (omega arith)))

module _ {n : ℕ} {s c s' c' : List ℕ} (u : Kept n s c s' c') (watch : ℕ → ℕ) where
  total_grows : (w : ℕ) → total c watch w ≤ total c' watch w
  unfolding total
  total_grows zero = omega arith
  total_grows (suc w) = let h = total_grows w in let g = u.grows (watch w) in omega arith

  -- equal sums of counts that only grow are sums of equal counts
  total_same : (w : ℕ) → total c watch w ≡ total c' watch w → (i : ℕ) → i < w → get_or c (watch i) 0 ≡ get_or c' (watch i) 0
  unfolding total
  total_same zero e i h = absurd (omega arith)
  total_same (suc w) e i h =
      let a = total_grows w in
      let g = u.grows (watch w) in
      let this : get_or c (watch w) 0 ≡ get_or c' (watch w) 0 = omega arith in
      let rest : total c watch w ≡ total c' watch w = omega arith in
      by_order (get_or c (watch i) 0 ≡ get_or c' (watch i) 0) i w (λ q. rw q this) (λ q. total_same w rest i q) (λ q. absurd (omega arith))

-- ---- what was served
module _ {n : ℕ} {step : (ℕ → ℕ → Type 0) → ℕ → Type 0} {k : ℕ} {s₀ c₀ s c : List ℕ} where
  pub since_later : {s' c' : List ℕ} → k < n → Since n step k s₀ c₀ s c → Kept n s c s' c' → Since n step k s₀ c₀ s' c'
  since_later h o u = record {
    sets = o.sets;
    counts = o.counts;
    earlier = o.earlier;
    fine = o.fine;
    later = kept_trans o.later u;
    gathered = λ x q. u.stays k x h (o.gathered x q);
  }

  pub since_earlier : {s' c' : List ℕ} → Kept n s' c' s₀ c₀ → Since n step k s₀ c₀ s c → Since n step k s' c' s c
  since_earlier u o = record {
    sets = o.sets;
    counts = o.counts;
    earlier = kept_trans u o.earlier;
    fine = o.fine;
    later = o.later;
    gathered = o.gathered;
  }

-- the step served now
pub since_now : {n : ℕ} {P : ℕ → ℕ → Type 0} (step : (ℕ → ℕ → Type 0) → ℕ → Type 0) {k : ℕ} {s c s' c' : List ℕ} → Fine n P s c → Kept n s c s' c'
    → Gathered k (step (Has s c)) s' c' → Since n step k s c s' c'
since_now {n} step {s = s} {c} f u g = record { sets = s; counts = c; earlier = kept_refl n s c; fine = fine_own f; later = u; gathered = g }

-- ---- a production's turn
module _ {q : Steps} (w : Lawful q) {p : ℕ} (l : p < q.prods) where
  -- THEOREM: where the watched kinds have no member more than then, all that a step gives now is in
  pub served_closed : {P : ℕ → ℕ → Type 0} {s₀ c₀ s c : List ℕ} → Fine q.kinds P s c → total c₀ (q.watch p) (q.watches p) ≡ total c (q.watch p) (q.watches p)
      → Served q p s₀ c₀ s c → (j : ℕ) → j < q.many p → Gathered (q.into p j) (q.step p j (Has s c)) s c
  served_closed {P} {s₀} {c₀} {s} {c} f e d j h = closed (d j h)
    where
      closed : Since q.kinds (q.step p j) (q.into p j) s₀ c₀ s c → Gathered (q.into p j) (q.step p j (Has s c)) s c
      closed o x y = o.gathered x (w.local p j l h s c o.sets o.counts same x y)
        where
          same : (i x : ℕ) → i < q.watches p → Has s c (q.watch p i) x → Has o.sets o.counts (q.watch p i) x
          same i x k m =
              let t = total_same (kept_trans o.earlier o.later) (q.watch p) (q.watches p) e i k in
              let a = o.earlier.grows (q.watch p i) in
              let b = o.later.grows (q.watch p i) in
              let z : get_or o.counts (q.watch p i) 0 ≡ get_or c (q.watch p i) 0 = omega arith in
              subst (Memᴰ x) (equal_counts o.later o.fine f (q.watch p i) (w.watch_in p i l k) z) m

  pub served_later : {s₀ c₀ s c s' c' : List ℕ} → Kept q.kinds s c s' c' → Served q p s₀ c₀ s c → Served q p s₀ c₀ s' c'
  served_later u d j h = since_later (w.into_in p j l h) (d j h) u

  pub marked_later : {mark : ℕ} {s c s' c' : List ℕ} → Kept q.kinds s c s' c' → Marked q p mark s c → Marked q p mark s' c'
  marked_later u (inl z) = inl z
  marked_later u (inr v) = inr (record { sets = v.sets; counts = v.counts; later = kept_trans v.later u; mark_is = v.mark_is; served = served_later u v.served })

  module _ {s c : List ℕ} {mark : ℕ} (f : Fine q.kinds q.may s c) (e : mark ≡ suc (total c (q.watch p) (q.watches p))) where
    -- THEOREM: a production whose mark is what it would be now is served as it stands
    marked_served : Marked q p mark s c → Served q p s c s c
    marked_served (inl z) j h = absurd (omega arith)
    marked_served (inr v) j h =
        let t : total v.counts (q.watch p) (q.watches p) ≡ total c (q.watch p) (q.watches p) = omega (arith, v.mark_is) in
        since_now (q.step p j) f (kept_refl q.kinds s c) (served_closed f t v.served j h)

    -- THEOREM: so it may be passed over
    pub spared : Marked q p mark s c → Attended q.kinds q.may (Served q p s c s c) (Marked q p mark) s c s c (Ok false)
    spared m = record { turned = record { fine = f; kept = kept_refl q.kinds s c; case = (refl, refl, marked_served m) }; marked = m }

-- ---- the steps of a production, one by one
-- what step j is to bring about, from s₀, c₀ on
abbrev pub InStep : Steps → ℕ → (s₀ c₀ s c : List ℕ) → ℕ → Type 0
InStep q p s₀ c₀ s c j = j < q.many p → Since q.kinds (q.step p j) (q.into p j) s₀ c₀ s c

module _ {q : Steps} (w : Lawful q) {p : ℕ} (l : p < q.prods) {s₀ c₀ s c : List ℕ} {a : Bool} {j : ℕ} where
  pub step_next : {s' c' : List ℕ} (b : Bool) → Round q.kinds q.may (InStep q p s₀ c₀) s₀ c₀ s c a j
      → Turned q.kinds q.may (Since q.kinds (q.step p j) (q.into p j) s c s' c') s c s' c' (Ok b) → Round q.kinds q.may (InStep q p s₀ c₀) s₀ c₀ s' c' (a || b) (j + 1)
  step_next b h u = round_next (InStep q p s₀ c₀) a b (λ s c s' c' i k d m. since_later (w.into_in p i l m) (d m) k) h (turned_map (Ok b) (λ d m. since_earlier h.kept d) u)

-- ---- a sweep
-- what the turn of a production is to bring about, from s₀, c₀ on
abbrev pub InTurn : Steps → (s₀ c₀ s c : List ℕ) → ℕ → Type 0
InTurn q s₀ c₀ s c p = p < q.prods → Served q p s₀ c₀ s c

pub record OnSweep (q : Steps) (s₀ c₀ marks s c : List ℕ) (added : Bool) (p : ℕ) : Type 0 where
  pub round : Round q.kinds q.may (InTurn q s₀ c₀) s₀ c₀ s c added p
  pub marked : AllMarked q marks s c
  pub long : length marks ≡ q.prods

module _ {q : Steps} {s₀ c₀ marks s c : List ℕ} {a : Bool} {p : ℕ} (h : OnSweep q s₀ c₀ marks s c a p) where
  pub sweep_next : Lawful q → p < q.prods → {mark : ℕ} {s' c' : List ℕ} (b : Bool) → Attended q.kinds q.may (Served q p s c s' c') (Marked q p mark) s c s' c' (Ok b)
      → OnSweep q s₀ c₀ (set marks p mark) s' c' (a || b) (p + 1)
  sweep_next w l {mark} {s'} {c'} b u = record {
    round = round_next (InTurn q s₀ c₀) a b (λ s c s' c' i k d o. served_later w o k (d o)) h.round
        (turned_map (Ok b) (λ d o j z. since_earlier h.round.kept (d j z)) u.turned);
    marked = λ i o. mark_of i o (ℕ_discrete i p);
    long = length-set marks p mark ∙ h.long;
  }
    where
      mark_of : (i : ℕ) → i < q.prods → Dec (i ≡ p) → Marked q i (get_or (set marks p mark) i 0) s' c'
      mark_of i o (yes y) = rw (y, get_or-set_same marks p mark 0 (omega (arith, h.long))) u.marked
      mark_of i o (no y) = rw (get_or-set_other marks p i mark 0 y) (marked_later w o u.turned.kept (h.marked i o))

-- ---- sweeps until one adds nothing
pub record Closing (q : Steps) (s₀ c₀ marks s c : List ℕ) : Type 0 where
  pub fine : Fine q.kinds q.may s c
  pub kept : Kept q.kinds s₀ c₀ s c
  pub marked : AllMarked q marks s c
  pub long : length marks ≡ q.prods

pub close_begun : {q : Steps} {s c : List ℕ} {n : ℕ} → Lawful q → n ≡ q.prods → Fine q.kinds q.may s c → Closing q s c (take n (replicate max_prods 0)) s c
close_begun {q} {s} {c} {n} w e f = record {
  fine = f;
  kept = kept_refl q.kinds s c;
  marked = λ p l. inl (get_or-take n (replicate max_prods 0) p 0 (omega arith) ∙ get_or-replicate {A = ℕ} max_prods p 0 0 (omega (arith, w.few)));
  long = length-take-le n (replicate max_prods 0) (omega (arith, w.few, length-replicate {A = ℕ} max_prods 0)) ∙ e;
}

-- ---- a pass after a pass
-- sets that hold exactly what has P, whatever stood there before
pub holds_exact : {n : ℕ} {P : ℕ → ℕ → Type 0} {s₀ c₀ s c : List ℕ} → n * max_members ≤ length s₀ → n ≤ length c₀ → Holds n P s₀ c₀ s c → Exact n P s c
holds_exact there here h = record { fine = holds_fine there here h; whole = λ k x l. (h.exactly k x l).1 }
