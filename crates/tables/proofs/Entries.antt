-- The two tables are pinned: every byte of every entry, given what the sets hold.
use mathlib.Core.Path.{◌≡◌, refl, sym, ap, ap₂, ◌∙◌}
use mathlib.Core.List.{List, [], ◌∷◌}
use Prim.Native.Nat.{ℕ, zero, suc, ◌+◌, ◌*◌, ◌-◌, ◌/◌, ◌%◌, ◌≤◌, ◌<◌}
use native.Mathlib.Omega.{arith}
use native.Mathlib.Decide.{dec_le}
use lib.ListN.{length, get_or, take, drop}
use lib.Seq.{ext_get_or, get_or-take, get_or-drop}
use Rattle.lists.proofs.Parts.{get_d_part}
use Rattle.chains.specs.Limits.{max_kids}
use Rattle.chains.specs.Grammar.{Occ, Grammar}
use Rattle.chains.proofs.Says.{says_unique}
use Rattle.ranks.specs.Entries.{choices, up_start, down_start, labels, entry_bytes, none}
use Rattle.ranks.proofs.Numbers.{up_entry_of, down_entry_of}
use Rattle.tables.specs.Entries.{Ranked, UpTable, DownEntry, DownTable}
use Rattle.tables.specs.Promise.{up_entries, down_entries, Written}
use Rattle.tables.specs.Memory.{Fine}
use Rattle.members.proofs.Ranked.{rank_once}
use Rattle.tables.proofs.StateTidy.{labelled_once}
use Rattle.tables.proofs.Memory.{fine_placed}

-- a list that is pinned below n, and as it was from n on, is pinned
pub written_once : {n : ℕ} {before now now' : List ℕ} → Written n before now → Written n before now'
    → ((i : ℕ) → i < n → get_or now i none ≡ get_or now' i none) → now ≡ now'
written_once {n} {before} {now} {now'} w w' below = ext_get_or none now now' (w.long ∙ sym w'.long) (λ i h. go i (dec_le n i))
  where
    past : (l : List ℕ) (i : ℕ) → n ≤ i → get_or l i none ≡ get_or (drop n l) (i - n) none
    past l i h = let e : n + (i - n) ≡ i = omega arith in ap (λ (k : ℕ). get_or l k none) (sym e) ∙ sym (get_or-drop n l (i - n) none)

    go : (i : ℕ) → Dec (n ≤ i) → get_or now i none ≡ get_or now' i none
    go i (yes h) = past now i h ∙ ap (λ (l : List ℕ). get_or l (i - n) none) (w.beyond ∙ sym w'.beyond) ∙ sym (past now' i h)
    go i (no h) = below i (omega arith)

-- a rank is pinned by what its member says
pub ranked_once : {n : ℕ} {P : ℕ → ℕ → Type 0} {s c : List ℕ} {A k t : ℕ} {R : Occ → Occ → Type 0} {r q : ℕ} → Fine n P s c → k < n
    → Ranked s c A k t R r → Ranked s c A k t R q → r ≡ q
ranked_once {k = k} {r = r} {q} f l a b = rank_once (fine_placed f k l) r q (f.rising k l) a.below b.below (says_unique a.says b.says)

-- ── the up table ──
module _ (G : Grammar) (left_in : (p : ℕ) → p < G.prods → G.left p < G.kinds) {P : ℕ → ℕ → Type 0} {s c : List ℕ} (f : Fine G.kinds P s c) where
  pub up_once : (up up' : List ℕ) → UpTable G s c up → UpTable G s c up' → (x : ℕ) → x < up_start G c G.prods → get_or up x none ≡ get_or up' x none
  up_once up up' t t' x h =
      let e = up_entry_of G c G.prods x h in
      rw (← e.made) (ranked_once f (left_in e.prod e.prod_below) (t e.prod e.ranks e.prod_below e.below) (t' e.prod e.ranks e.prod_below e.below))

-- ── the down table ──
module _ (G : Grammar) (kids_in : (p j : ℕ) → p < G.prods → j < length (G.kids p) → get_or (G.kids p) j 0 < G.kinds)
    {Q : ℕ → ℕ → Type 0} {f d : List ℕ} (g : Fine G.kinds Q f d) where
  module _ {p : ℕ} (below : p < G.prods) {R : Occ → Occ → Type 0} {l l' : List ℕ} (e : DownEntry G p f d R l) (e' : DownEntry G p f d R l') where
    label_once : (o : ℕ) → o < labels → get_or l o none ≡ get_or l' o none
    label_once o h =
        sym (get_or-take labels l o none h)
        ∙ ap (λ (u : List ℕ). get_or u o none) (labelled_once G p R (take labels l) (take labels l') e.blocks e'.blocks)
        ∙ get_or-take labels l' o none h

    kid_rank_once : (j : ℕ) → j < max_kids → get_or l (labels + j) none ≡ get_or l' (labels + j) none
    kid_rank_once j h = go (dec_le (length (G.kids p)) j)
      where
        go : Dec (length (G.kids p) ≤ j) → get_or l (labels + j) none ≡ get_or l' (labels + j) none
        go (yes k) = e.rest j k h ∙ sym (e'.rest j k h)
        go (no k) = let m : j < length (G.kids p) = omega arith in ranked_once g (kids_in p j below m) (e.ranks j m) (e'.ranks j m)

    entry_once : (i : ℕ) → i < entry_bytes → get_or l i none ≡ get_or l' i none
    entry_once i h = go (dec_le labels i)
      where
        go : Dec (labels ≤ i) → get_or l i none ≡ get_or l' i none
        go (yes k) = let z : labels + (i - labels) ≡ i = omega arith in rw z at (kid_rank_once (i - labels) (omega arith))
        go (no k) = label_once i (omega arith)

  pub down_once : (s c down down' : List ℕ) → DownTable G s c f d down → DownTable G s c f d down'
      → (i : ℕ) → i < down_start G c d G.prods * entry_bytes → get_or down i none ≡ get_or down' i none
  down_once s c down down' t t' i h =
      let x = i / entry_bytes in
      let y = i % entry_bytes in
      let l : y < entry_bytes = omega arith in
      let e = down_entry_of G c d G.prods x (omega arith) in
      let u = t e.prod e.rank e.ranks e.prod_below e.rank_below e.below in
      let u' = t' e.prod e.rank e.ranks e.prod_below e.rank_below e.below in
      let same = rw e.made at (entry_once e.prod_below u u' y l) in
      let z : x * entry_bytes + y ≡ i = omega arith in
      rw z at (sym (get_d_part (x * entry_bytes) entry_bytes down y none l) ∙ same ∙ get_d_part (x * entry_bytes) entry_bytes down' y none l)

-- ── the numbers of entries ──
-- counts that agree on the kinds ks give the same number of choices
pub choices_same : (c c' ks : List ℕ) → ((j : ℕ) → j < length ks → get_or c (get_or ks j 0) 0 ≡ get_or c' (get_or ks j 0) 0) → choices c ks ≡ choices c' ks
unfolding choices
choices_same c c' [] h = refl
choices_same c c' (k ∷ ks) h = ap₂ ◌*◌ (h 0 (omega arith)) (choices_same c c' ks (λ j l. h (suc j) (omega arith)))

module _ (G : Grammar) (kids_in : (p j : ℕ) → p < G.prods → j < length (G.kids p) → get_or (G.kids p) j 0 < G.kinds)
    (c c' : List ℕ) (same : (k : ℕ) → k < G.kinds → get_or c k 0 ≡ get_or c' k 0) where
  pub kids_same : (p : ℕ) → p < G.prods → choices c (G.kids p) ≡ choices c' (G.kids p)
  kids_same p h = choices_same c c' (G.kids p) (λ j l. same (get_or (G.kids p) j 0) (kids_in p j h l))

  pub up_start_same : (p : ℕ) → p ≤ G.prods → up_start G c p ≡ up_start G c' p
  unfolding up_start
  up_start_same zero h = refl
  up_start_same (suc p) h = ap₂ ◌+◌ (up_start_same p (omega arith)) (kids_same p h)

  -- THEOREM: counts that agree on the grammar's kinds give the same number of up entries
  pub up_entries_same : up_entries G c ≡ up_entries G c'
  up_entries_same = up_start_same G.prods (omega arith)

  module _ (left_in : (p : ℕ) → p < G.prods → G.left p < G.kinds) (d d' : List ℕ) (same_d : (k : ℕ) → k < G.kinds → get_or d k 0 ≡ get_or d' k 0) where
    pub down_start_same : (p : ℕ) → p ≤ G.prods → down_start G c d p ≡ down_start G c' d' p
    unfolding down_start
    down_start_same zero h = refl
    down_start_same (suc p) h = ap₂ ◌+◌ (down_start_same p (omega arith)) (ap₂ ◌*◌ (same_d (G.left p) (left_in p h)) (kids_same p h))

    -- THEOREM: and of down entries
    pub down_entries_same : down_entries G c d ≡ down_entries G c' d'
    down_entries_same = down_start_same G.prods (omega arith)
