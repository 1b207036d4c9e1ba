-- Entry numbers: each production and choice of ranks has its own, and every number below the total is one's.
use mathlib.Core.Path.{◌≡◌, refl, ap, ap₂, ◌∙◌}
use mathlib.Core.List.{List, [], ◌∷◌}
use Prim.Native.Nat.{ℕ, zero, suc, ◌+◌, ◌*◌, ◌/◌, ◌%◌, ◌^◌, ◌≤◌, ◌<◌}
use native.Mathlib.Nat.{mul_comm, mul-le-mul, pow-zero, pow-suc, div-add-mod'}
use native.Mathlib.Omega.{arith}
use lib.ListN.{length, get_or}
use Rattle.std.proofs.lemmas.Nat.{same_from_place}
use Rattle.chains.specs.Grammar.{Grammar}
use Rattle.ranks.specs.Entries.{Ranks, choices, choice, up_start, up_entry, down_start, down_entry}
use Rattle.ranks.proofs.Digits.{digit_below, first_below, rest_below}
use Rattle.ranks.proofs.Runs.{starts, starts_after, starts_few, run_once, run_of}

-- ── choices ──
pub choice_below : (c ks rs : List ℕ) → Ranks c ks rs → choice c ks rs < choices c ks
unfolding choices choice
choice_below c [] rs h = omega arith
choice_below c (k ∷ ks) [] h = absurd h
choice_below c (k ∷ ks) (r ∷ rs) h = digit_below r (choice c ks rs) h.0 (choice_below c ks rs h.1)

pub choice_once : (c ks rs rs' : List ℕ) → Ranks c ks rs → Ranks c ks rs' → choice c ks rs ≡ choice c ks rs' → rs ≡ rs'
unfolding choices choice
choice_once c [] [] [] h h' e = refl
choice_once c [] [] (r' ∷ rs') h h' e = absurd h'
choice_once c [] (r ∷ rs) rs' h h' e = absurd h
choice_once c (k ∷ ks) [] rs' h h' e = absurd h
choice_once c (k ∷ ks) (r ∷ rs) [] h h' e = absurd h'
choice_once c (k ∷ ks) (r ∷ rs) (r' ∷ rs') h h' e =
    let d = same_from_place r (choice c ks rs) r' (choice c ks rs') (choices c ks) (choice_below c ks rs h.1) (choice_below c ks rs' h'.1) e in
    ap₂ ◌∷◌ d.0 (choice_once c ks rs rs' h.1 h'.1 d.1)

-- the ranks of the choice with the number x
unfoldable pub ranks_of : List ℕ → List ℕ → ℕ → List ℕ
ranks_of c [] x = []
ranks_of c (k ∷ ks) x = x / choices c ks ∷ ranks_of c ks (x % choices c ks)

pub ranks_of_below : (c ks : List ℕ) (x : ℕ) → x < choices c ks → Ranks c ks (ranks_of c ks x)
unfolding choices ranks_of
ranks_of_below c [] x h = tt
ranks_of_below c (k ∷ ks) x h =
    (first_below (get_or c k 0) (choices c ks) x h, ranks_of_below c ks (x % choices c ks) (rest_below (get_or c k 0) (choices c ks) x h))

pub choice_ranks_of : (c ks : List ℕ) (x : ℕ) → x < choices c ks → choice c ks (ranks_of c ks x) ≡ x
unfolding choices choice ranks_of
choice_ranks_of c [] x h = omega arith
choice_ranks_of c (k ∷ ks) x h =
    ap (λ t. x / choices c ks * choices c ks + t) (choice_ranks_of c ks (x % choices c ks) (rest_below (get_or c k 0) (choices c ks) x h))
    ∙ div-add-mod' x (choices c ks)

-- kinds with at most m members each
pub choices_few : (c : List ℕ) (m : ℕ) (ks : List ℕ) → ((j : ℕ) → j < length ks → get_or c (get_or ks j 0) 0 ≤ m) → choices c ks ≤ m ^ length ks
unfolding choices
choices_few c m [] h = omega (arith, pow-zero m)
choices_few c m (k ∷ ks) h =
    let l : get_or c k 0 * choices c ks ≤ m * m ^ length ks = mul-le-mul (h 0 (omega arith)) (choices_few c m ks (λ j l. h (suc j) (omega arith))) in
    omega (arith, pow-suc m (length ks), mul_comm m (m ^ length ks))

-- ── entries ──
-- the up entry x is that of a production before the n-th and a choice
pub record UpEntryOf (G : Grammar) (c : List ℕ) (n x : ℕ) : Type 0 where
  pub prod : ℕ
  pub ranks : List ℕ
  pub prod_below : prod < n
  pub below : Ranks c (G.kids prod) ranks
  pub made : up_entry G c prod ranks ≡ x

-- the down entry x is that of a production before the n-th, a feasible rank and a choice
pub record DownEntryOf (G : Grammar) (c d : List ℕ) (n x : ℕ) : Type 0 where
  pub prod : ℕ
  pub rank : ℕ
  pub ranks : List ℕ
  pub prod_below : prod < n
  pub rank_below : rank < get_or d (G.left prod) 0
  pub below : Ranks c (G.kids prod) ranks
  pub made : down_entry G c d prod rank ranks ≡ x

module _ (G : Grammar) (c : List ℕ) where
  -- a production's up entries
  ups : ℕ → ℕ
  ups p = choices c (G.kids p)

  up_starts : (p : ℕ) → up_start G c p ≡ starts ups p
  unfolding up_start starts ups
  up_starts zero = refl
  up_starts (suc p) = ap (λ x. x + choices c (G.kids p)) (up_starts p)

  -- they end where the next one's start
  pub up_start_after : (p n : ℕ) → p < n → up_start G c p + choices c (G.kids p) ≤ up_start G c n
  unfolding ups
  up_start_after p n h = rw (up_starts p, up_starts n) (starts_after ups p n h)

  pub up_start_few : (m n : ℕ) → ((p : ℕ) → p < n → choices c (G.kids p) ≤ m) → up_start G c n ≤ n * m
  unfolding ups
  up_start_few m n h = rw (up_starts n) (starts_few ups m n h)

  pub up_entry_below : (p n : ℕ) (rs : List ℕ) → p < n → Ranks c (G.kids p) rs → up_entry G c p rs < up_start G c n
  up_entry_below p n rs h r = omega (arith, up_start_after p n h, choice_below c (G.kids p) rs r)

  -- THEOREM: a production and a choice have an entry of their own
  pub up_entry_once : (p p' : ℕ) (rs rs' : List ℕ) → Ranks c (G.kids p) rs → Ranks c (G.kids p') rs'
      → up_entry G c p rs ≡ up_entry G c p' rs' → (p ≡ p') × (rs ≡ rs')
  unfolding ups
  up_entry_once p p' rs rs' r r' e =
      let f : starts ups p + choice c (G.kids p) rs ≡ starts ups p' + choice c (G.kids p') rs' = rw (← up_starts p, ← up_starts p') e in
      let t = run_once ups p (choice c (G.kids p) rs) p' (choice c (G.kids p') rs') (choice_below c (G.kids p) rs r) (choice_below c (G.kids p') rs' r') f in
      (t.0, choice_once c (G.kids p) rs rs' r (rw t.0 r') (t.1 ∙ rw t.0))

  -- THEOREM: every up entry is one's
  pub up_entry_of : (n x : ℕ) → x < up_start G c n → UpEntryOf G c n x
  unfolding ups
  up_entry_of n x h =
      let i = run_of ups n x (rw (up_starts n) at h) in
      let ks = G.kids i.run in
      record {
        prod = i.run;
        ranks = ranks_of c ks i.place;
        prod_below = i.run_below;
        below = ranks_of_below c ks i.place i.place_below;
        made = ap₂ ◌+◌ (up_starts i.run) (choice_ranks_of c ks i.place i.place_below) ∙ i.made;
      }

-- the number of a down entry among its production's, whose children have the kinds ks
abbrev within : List ℕ → List ℕ → ℕ → List ℕ → ℕ
within c ks f rs = f * choices c ks + choice c ks rs

module _ (G : Grammar) (c d : List ℕ) where
  -- a production's down entries
  downs : ℕ → ℕ
  downs p = get_or d (G.left p) 0 * choices c (G.kids p)

  down_starts : (p : ℕ) → down_start G c d p ≡ starts downs p
  unfolding down_start starts downs
  down_starts zero = refl
  down_starts (suc p) = ap (λ x. x + get_or d (G.left p) 0 * choices c (G.kids p)) (down_starts p)

  pub down_start_after : (p n : ℕ) → p < n → down_start G c d p + get_or d (G.left p) 0 * choices c (G.kids p) ≤ down_start G c d n
  unfolding downs
  down_start_after p n h = rw (down_starts p, down_starts n) (starts_after downs p n h)

  pub down_start_few : (m n : ℕ) → ((p : ℕ) → p < n → get_or d (G.left p) 0 * choices c (G.kids p) ≤ m) → down_start G c d n ≤ n * m
  unfolding downs
  down_start_few m n h = rw (down_starts n) (starts_few downs m n h)

  within_below : (p f : ℕ) (rs : List ℕ) → f < get_or d (G.left p) 0 → Ranks c (G.kids p) rs
      → within c (G.kids p) f rs < get_or d (G.left p) 0 * choices c (G.kids p)
  within_below p f rs l r = digit_below f (choice c (G.kids p) rs) l (choice_below c (G.kids p) rs r)

  pub down_entry_below : (p n f : ℕ) (rs : List ℕ) → p < n → f < get_or d (G.left p) 0 → Ranks c (G.kids p) rs
      → down_entry G c d p f rs < down_start G c d n
  down_entry_below p n f rs h l r = omega (arith, down_start_after p n h, within_below p f rs l r)

  -- THEOREM: a production, a feasible rank and a choice have an entry of their own
  pub down_entry_once : (p p' f f' : ℕ) (rs rs' : List ℕ) → f < get_or d (G.left p) 0 → f' < get_or d (G.left p') 0
      → Ranks c (G.kids p) rs → Ranks c (G.kids p') rs' → down_entry G c d p f rs ≡ down_entry G c d p' f' rs' → (p ≡ p') × (f ≡ f') × (rs ≡ rs')
  unfolding downs
  down_entry_once p p' f f' rs rs' l l' r r' e =
      let ks = G.kids p in
      let g : starts downs p + within c ks f rs ≡ starts downs p' + within c (G.kids p') f' rs' = rw (← down_starts p, ← down_starts p') e in
      let t = run_once downs p (within c ks f rs) p' (within c (G.kids p') f' rs') (within_below p f rs l r) (within_below p' f' rs' l' r') g in
      let q : Ranks c ks rs' = rw t.0 r' in
      let z = same_from_place f (choice c ks rs) f' (choice c ks rs') (choices c ks) (choice_below c ks rs r) (choice_below c ks rs' q) (t.1 ∙ rw t.0) in
      (t.0, z.0, choice_once c ks rs rs' r q z.1)

  -- THEOREM: every down entry is one's
  pub down_entry_of : (n x : ℕ) → x < down_start G c d n → DownEntryOf G c d n x
  unfolding downs
  down_entry_of n x h =
      let i = run_of downs n x (rw (down_starts n) at h) in
      let ks = G.kids i.run in
      let m = choices c ks in
      let u = get_or d (G.left i.run) 0 in
      let l = rest_below u m i.place i.place_below in
      let t : within c ks (i.place / m) (ranks_of c ks (i.place % m)) ≡ i.place
      = ap (λ y. i.place / m * m + y) (choice_ranks_of c ks (i.place % m) l) ∙ div-add-mod' i.place m in
      record {
        prod = i.run;
        rank = i.place / m;
        ranks = ranks_of c ks (i.place % m);
        prod_below = i.run_below;
        rank_below = first_below u m i.place i.place_below;
        below = ranks_of_below c ks (i.place % m) l;
        made = ap₂ ◌+◌ (down_starts i.run) t ∙ i.made;
      }
