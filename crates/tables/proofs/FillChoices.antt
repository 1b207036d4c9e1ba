-- The entries of all choices of members for a production's slots: slot by slot, and of each slot rank by rank.
use mathlib.Core.Path.{◌≡◌, sym, ap, ◌∙◌, subst}
use mathlib.Core.List.{List, [], ◌∷◌}
use Prim.Native.Nat.{ℕ, suc, ◌+◌, ◌-◌, ◌*◌, ◌≤◌, ◌<◌}
use native.Mathlib.Nat.{one-mul}
use native.Mathlib.Omega.{arith}
use lib.ListN.{length, get_or}
use Rattle.chains.specs.Limits.{max_members}
use Rattle.lists.proofs.Parts.{get_d_part}
use Rattle.ranks.specs.Entries.{Ranks, choices, choice}
use Rattle.std.proofs.lemmas.Nat.{same_from_place}
use Rattle.ranks.proofs.Numbers.{choice_below}
use Rattle.members.specs.Sets.{Placed, member, members}
use Rattle.members.proofs.Ranked.{members_long}
use Rattle.tables.specs.Entries.{picked}
use Rattle.tables.specs.State.{spot}
use Rattle.tables.specs.Shape.{kind_of, width_of, kinds_from, first_of}
use Rattle.tables.specs.Fill.{Ready, tied_once, tied, EntriesLaid, chosen, Choices, ChoicesLaid, Choosable, joined_left, left_many, AllChoices, AllChoosable}
use Rattle.tables.specs.declared.shape.Shape.{Shape}
use Rattle.tables.proofs.State.{tie_means}
use Rattle.tables.proofs.Shapes.{all_open, kinds_step, kinds_none}
use Rattle.tables.proofs.FillRuns.{Behind, laid_map, laid_count, Blocks, blocks_begun, blocks_room, blocks_next, blocks_done}

-- ── a slot ──
-- a slot tied leaves a state, with the settings of every slot
pub tie_ready : {v : Shape} {x : List ℕ} → Ready v x → (t y : ℕ) → t ≤ v.arity → Ready v (tied_once v t y x)
tie_ready {v} {x} h t y l =
    let m = tie_means h.state t (width_of v t) y (h.sized.widths t l) (h.whole t l) in
    record { sized = h.sized; state = m.state; whole = λ u k i b. (m.present (spot u i)).1 (h.whole u k i b) }

-- the members of a slot's kind, as a loop goes over them
module _ {s c l : List ℕ} {k : ℕ} (v : Shape) (t : ℕ) (p : Placed s c (kind_of v t)) (e : k ≡ kind_of v t) (q : l ≡ members s c k) where
  pub slot_long : length l ≡ get_or c (kind_of v t) 0
  slot_long = ap length q ∙ ap (λ (k : ℕ). length (members s c k)) e ∙ members_long p

  -- the r-th of them tied
  pub slot_tied : {r : ℕ} → r < length l → (x : List ℕ) {y : List ℕ} → y ≡ tied_once v t (get_or l r 0) x
      → (r < get_or c (kind_of v t) 0) × (y ≡ tied_once v t (member s (kind_of v t) r) x)
  slot_tied {r} h x w =
      let b : r < get_or c (kind_of v t) 0 = omega (arith, slot_long) in
      let m : get_or l r 0 ≡ member s (kind_of v t) r
      = ap (λ (l : List ℕ). get_or l r 0) (q ∙ ap (members s c) e) ∙ get_d_part (kind_of v t * max_members) (get_or c (kind_of v t) 0) s r 0 b in
      (b, w ∙ ap (λ (z : ℕ). tied_once v t z x) m)

module _ (v : Shape) (t : ℕ) (s c : List ℕ) where
  -- ── no slot is left ──
  -- the choices for no kinds: one, and it ties nothing
  none_asked : (A : List ℕ → Type 0) (x ks : List ℕ) → ks ≡ [] → ((rs : List ℕ) → Ranks c ks rs → A (chosen v t s ks rs x)) → A x
  unfolding picked tied
  none_asked A x ks e h = subst (λ ks. (rs : List ℕ) → Ranks c ks rs → A (chosen v t s ks rs x)) e h [] tt

  none_count : (ks : List ℕ) → ks ≡ [] → choices c ks ≡ 1
  unfolding choices
  none_count ks e = ap (choices c) e

  none_laid : (P : List ℕ → List ℕ → Type 0) (x : List ℕ) {w : ℕ} {ks out : List ℕ} {a : ℕ} {out' : List ℕ} {z : ℕ} → ks ≡ []
      → EntriesLaid w 1 (λ i e. P x e) out a out' z → EntriesLaid w (choices c ks) (Choices P v t s c ks x) out a out' z
  unfolding picked tied choices
  none_laid P x {w} {ks} {out} {a} {out'} {z} e h =
      subst (λ ks. EntriesLaid w (choices c ks) (Choices P v t s c ks x) out a out' z) (sym e) (laid_map h (λ i l b q rs r n. q))

  -- ── the ranks of a slot, whose kind is k; ks are the kinds behind it ──
  -- the entries of rank r stand behind those of the ranks before it
  rank_behind : (P : List ℕ → List ℕ → Type 0) (x : List ℕ) (k : ℕ) (ks : List ℕ) (r : ℕ)
      → Behind (r * choices c ks) (choices c ks) (Choices P v t s c (k ∷ ks) x) (Choices P v (suc t) s c ks (tied_once v t (member s k r) x))
  unfolding picked tied choice
  rank_behind P x k ks r i l b q [] h e = absurd h
  rank_behind P x k ks r i l b q (u ∷ rs) h e =
      let (first, rest) = same_from_place u (choice c ks rs) r i (choices c ks) (choice_below c ks rs h.1) l e in
      subst (λ u. P (tied v (suc t) (picked s ks rs) (tied_once v t (member s k u) x)) b) (sym first) (q rs h.1 rest)

  rank_asked : (A : List ℕ → Type 0) (x : List ℕ) (k : ℕ) (ks : List ℕ) (r : ℕ) → r < get_or c k 0 → ((rs : List ℕ) → Ranks c (k ∷ ks) rs → A (chosen v t s (k ∷ ks) rs x))
      → (rs : List ℕ) → Ranks c ks rs → A (chosen v (suc t) s ks rs (tied_once v t (member s k r) x))
  unfolding picked tied
  rank_asked A x k ks r l h rs m = h (r ∷ rs) (l, m)

module _ {A : List ℕ → Type 0} {v : Shape} {t : ℕ} {s c x : List ℕ} (h : Choosable A v t s c x) where
  -- ── the last slot is tied ──
  module _ (l : v.arity < t) where
    none_left_asks : A x
    none_left_asks = none_asked v t s c A x (kinds_from v t) (kinds_none v t l) h.each

    none_left_room : (a w : ℕ) {n : ℕ} → a + choices c (kinds_from v t) * w ≤ n → a + w ≤ n
    none_left_room a w {n} room =
        let g : a + 1 * w ≤ n = rw (none_count v t s c (kinds_from v t) (kinds_none v t l)) at room in
        omega (arith, one-mul w)

  -- ── the ranks of slot t, one after another ──
  module _ (l : t ≤ v.arity) where
    abbrev ks : List ℕ
    ks = kinds_from v (suc t)

    all_choices : choices c (kinds_from v t) ≡ get_or c (kind_of v t) 0 * choices c ks
    unfolding choices
    all_choices = ap (choices c) (kinds_step v t l)

    rank_choosable : {r : ℕ} → r < get_or c (kind_of v t) 0 → Choosable A v (suc t) s c (tied_once v t (member s (kind_of v t) r) x)
    rank_choosable {r} m = record {
      ready = tie_ready h.ready t (member s (kind_of v t) r) l;
      placed = h.placed;
      each = rank_asked v t s c A x (kind_of v t) ks r m
          (subst (λ ks. (rs : List ℕ) → Ranks c ks rs → A (chosen v t s ks rs x)) (kinds_step v t l) h.each);
    }

    rank_then : (P : List ℕ → List ℕ → Type 0) (r : ℕ)
        → Behind (r * choices c ks) (choices c ks) (Choices P v t s c (kinds_from v t) x) (Choices P v (suc t) s c ks (tied_once v t (member s (kind_of v t) r) x))
    rank_then P r =
        subst (λ u. Behind (r * choices c ks) (choices c ks) (Choices P v t s c u x) (Choices P v (suc t) s c ks (tied_once v t (member s (kind_of v t) r) x))) (sym (kinds_step v t l))
        (rank_behind v t s c P x (kind_of v t) ks r)

-- ── the last children, so many of them left ──
module _ {A : List ℕ → Type 0} {v : Shape} {left : ℕ} {s c x : List ℕ} (h : Choosable A v (first_of v left) s c x) where
  module _ (none : left ≡ 0) where
    beyond : v.arity < first_of v left
    beyond = omega arith

    pub leaf_asks : A x
    leaf_asks = none_left_asks h beyond

    pub leaf_room : (a w : ℕ) {n : ℕ} → a + choices c (kinds_from v (first_of v left)) * w ≤ n → a + w ≤ n
    leaf_room = none_left_room h beyond

    pub leaf_laid : (P : List ℕ → List ℕ → Type 0) {w : ℕ} {out : List ℕ} {a : ℕ} {out' : List ℕ} {z : ℕ} → EntriesLaid w 1 (λ i e. P x e) out a out' z
        → ChoicesLaid w P v (first_of v left) s c x out a out' z
    leaf_laid P k = none_laid v (first_of v left) s c P x (kinds_none v (first_of v left) beyond) k

  -- the first one's slot
  module _ (within : left ≤ v.arity) (some : left ≡ 0 → ⊥) {slot : ℕ} (first : slot ≡ first_of v left) where
    slot_in : slot ≤ v.arity
    slot_in = omega arith

    slot_next : suc slot ≡ first_of v (left - 1)
    slot_next = omega arith

    slot_open : Choosable A v slot s c x
    slot_open = subst (λ t. Choosable A v t s c x) (sym first) h

    -- r of its ranks have their entries
    abbrev Laying : ℕ → (List ℕ → List ℕ → Type 0) → List ℕ → ℕ → List ℕ → ℕ → ℕ → Type 0
    Laying w P out a out' z r = Blocks w (choices c (kinds_from v (suc slot))) (get_or c (kind_of v slot) 0) (Choices P v slot s c (kinds_from v slot) x) out a out' z r

    pub lay_begun : {w : ℕ} (P : List ℕ → List ℕ → Type 0) (out : List ℕ) {a : ℕ} → a + choices c (kinds_from v (first_of v left)) * w ≤ length out → Laying w P out a out a 0
    lay_begun {w} P out {a} room =
        blocks_begun w (choices c (kinds_from v (suc slot))) (get_or c (kind_of v slot) 0) (Choices P v slot s c (kinds_from v slot) x) out a
        (subst (λ (m : ℕ). a + m * w ≤ length out) (ap (λ t. choices c (kinds_from v t)) (sym first) ∙ all_choices slot_open slot_in) room)

    module _ {r : ℕ} (m : r < get_or c (kind_of v slot) 0) {y : List ℕ} (q : y ≡ tied_once v slot (member s (kind_of v slot) r) x) where
      pub lay_asks : Choosable A v (first_of v (left - 1)) s c y
      lay_asks = rw (q, ← slot_next) (rank_choosable slot_open slot_in m)

      module _ {w : ℕ} (P : List ℕ → List ℕ → Type 0) {out : List ℕ} {a : ℕ} {out' : List ℕ} {z : ℕ} (g : Laying w P out a out' z r) where
        pub lay_room : z + choices c (kinds_from v (first_of v (left - 1))) * w ≤ length out'
        lay_room = rw (← slot_next) (blocks_room g m)

        pub lay_next : {out'' : List ℕ} {z' : ℕ} → ChoicesLaid w P v (first_of v (left - 1)) s c y out' z out'' z' → Laying w P out a out'' z' (r + 1)
        lay_next {out''} {z'} k =
            let k' : ChoicesLaid w P v (suc slot) s c (tied_once v slot (member s (kind_of v slot) r) x) out' z out'' z' = rw (q, ← slot_next) at k in
            blocks_next g m k' (rank_then slot_open slot_in P r)

    pub lay_done : {w : ℕ} (P : List ℕ → List ℕ → Type 0) {out : List ℕ} {a : ℕ} {out' : List ℕ} {z r : ℕ} → Laying w P out a out' z r → get_or c (kind_of v slot) 0 ≤ r
        → ChoicesLaid w P v (first_of v left) s c x out a out' z
    lay_done {w} P {out} {a} {out'} {z} g m =
        subst (λ t. ChoicesLaid w P v t s c x out a out' z) first (laid_count (blocks_done g m) (sym (all_choices slot_open slot_in)))

-- ── the members of the left kind, one after another, with the children's choices each ──
-- the entries of member u stand behind those of the members before it
member_behind : (P : List ℕ → List ℕ → Type 0) (v : Shape) (s c f d ks x : List ℕ) (u : ℕ) → u < left_many v d
    → Behind (u * choices c ks) (choices c ks) (AllChoices P v s c f d ks x) (Choices P v 1 s c ks (joined_left v f u x))
member_behind P v s c f d ks x u m i l b q u' rs h r e =
    let (first, rest) = same_from_place u' (choice c ks rs) u i (choices c ks) (choice_below c ks rs r) l e in
    subst (λ (u : ℕ). P (chosen v 1 s ks rs (joined_left v f u x)) b) (sym first) (q rs r rest)

module _ {A : List ℕ → Type 0} {v : Shape} {s c f d x : List ℕ} (h : AllChoosable A v s c f d x) where
  abbrev Feeding : ℕ → (List ℕ → List ℕ → Type 0) → List ℕ → ℕ → List ℕ → ℕ → ℕ → Type 0
  Feeding w P out a out' z u = Blocks w (choices c (kinds_from v 1)) (left_many v d) (AllChoices P v s c f d (kinds_from v 1) x) out a out' z u

  module _ {u : ℕ} (m : u < left_many v d) {y : List ℕ} (q : y ≡ joined_left v f u x) where
    pub feed_asks : Choosable A v (first_of v v.arity) s c y
    feed_asks = rw (q, all_open v) (record {
      ready = tie_ready h.ready 0 (member f (kind_of v 0) u) (omega arith);
      placed = h.placed;
      each = λ rs r. h.each u rs m r;
    })

    module _ {w : ℕ} (P : List ℕ → List ℕ → Type 0) {out : List ℕ} {a : ℕ} {out' : List ℕ} {z : ℕ} (g : Feeding w P out a out' z u) where
      pub feed_room : z + choices c (kinds_from v (first_of v v.arity)) * w ≤ length out'
      feed_room = rw (all_open v) (blocks_room g m)

      pub feed_next : {out'' : List ℕ} {z' : ℕ} → ChoicesLaid w P v (first_of v v.arity) s c y out' z out'' z' → Feeding w P out a out'' z' (u + 1)
      feed_next {out''} {z'} k =
          let k' : ChoicesLaid w P v 1 s c (joined_left v f u x) out' z out'' z' = rw (q, all_open v) at k in
          blocks_next g m k' (member_behind P v s c f d (kinds_from v 1) x u m)
