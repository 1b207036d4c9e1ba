-- The states that a production's choices come to: they show the closure of its dependences and of the codes chosen.
use mathlib.Core.Path.{◌≡◌, refl, sym, ap, ◌∙◌, subst}
use mathlib.Core.Logic.{◌↔◌}
use mathlib.Core.List.{List, [], ◌∷◌}
use Prim.Native.Nat.{ℕ, suc, ◌+◌, ◌≤◌, ◌<◌}
use native.Mathlib.Nat.{add-zero}
use native.Mathlib.Omega.{arith}
use lib.ListN.{length, get_or}
use Rattle.chains.specs.Grammar.{Occ, Grammar, slots, width}
use Rattle.chains.specs.Grouping.{Says, Alike, Members}
use Rattle.chains.specs.State.{code_on}
use Rattle.chains.specs.Feasible.{Chosen}
use Rattle.book.specs.Format.{kinds, prods, entry, grammar}
use Rattle.bookcheck.specs.Accepted.{Accepted}
use Rattle.members.specs.Sets.{member}
use Rattle.ranks.specs.Entries.{Ranks}
use Rattle.tables.specs.Entries.{picked, Ranked}
use Rattle.tables.specs.Memory.{Fine}
use Rattle.tables.specs.State.{based}
use Rattle.tables.specs.Shape.{ShapeAt, AllPlaced}
use Rattle.tables.specs.Fill.{Ready, tied_once, tied, RankOn}
use Rattle.tables.specs.declared.shape.Shape.{Shape}
use Rattle.members.proofs.Ranked.{ranked_has}
use Rattle.tables.proofs.Memory.{fine_placed}
use Rattle.tables.proofs.StateBase.{few_settings, base_state}
use Rattle.tables.proofs.StateWalk.{base_whole}
use Rattle.tables.proofs.StateEntry.{Showing, show_base, show_skip, show_tie, Below, below_at, chosen_at}
use Rattle.tables.proofs.Shapes.{arity_is, arity_few, kind_is, kind_below, width_is_of, width_few}

-- ── members by ranks ──
pub picked_long : (c s ks rs : List ℕ) → Ranks c ks rs → length (picked s ks rs) ≡ length ks
unfolding picked
picked_long c s [] rs h = refl
picked_long c s (k ∷ ks) [] h = absurd h
picked_long c s (k ∷ ks) (r ∷ rs) h = ap suc (picked_long c s ks rs h.1)

-- what is picked has P
pub picked_members : {n : ℕ} {P : ℕ → ℕ → Type 0} {s c : List ℕ} → Fine n P s c → (ks rs : List ℕ) → ((j : ℕ) → j < length ks → get_or ks j 0 < n) → Ranks c ks rs
    → Members P ks (picked s ks rs)
unfolding picked
picked_members f [] [] below h = tt
picked_members f [] (r ∷ rs) below h = absurd h
picked_members f (k ∷ ks) [] below h = absurd h
picked_members {s = s} f (k ∷ ks) (r ∷ rs) below h =
    let l = below 0 (omega arith) in
    (f.only k (member s k r) l (ranked_has (fine_placed f k l) r h.0), picked_members f ks rs (λ j k. below (suc j) (omega arith)) h.1)

-- in slot t of production p τ relates what the code y does
abbrev Relates : Grammar → ℕ → (ℕ → ℕ → ℕ → Type 0) → ℕ → ℕ → Type 0
Relates G p τ t y = (i k : ℕ) → τ t i k ↔ Alike G (get_or (slots G p) t 0) y i k

module _ {b : List ℕ} (a : Accepted b) (p : ℕ) (l : p < prods b) {v : Shape} (h : ShapeAt b (entry b p) v) where
  abbrev G : Grammar
  G = grammar b

  -- the base grouping
  abbrev first : List ℕ
  first = based b (entry b p)

  -- ── what the writing leans on ──
  pub shape_placed : {P : ℕ → ℕ → Type 0} {s c : List ℕ} → Fine (kinds b) P s c → AllPlaced v s c
  shape_placed f t k = fine_placed f _ (kind_below a p l h t k)

  pub base_ready : Ready v first
  base_ready = record {
    sized = record { arity = arity_few a p l h; widths = width_few a p l h };
    state = base_state a p l;
    whole = λ t k. rw (width_is_of a p l h t k) (base_whole a p l t (omega (arith, arity_is a p l h)));
  }

  -- the rank of what a state shows on slot t is that of what R relates there
  pub ranked_on : {s c x : List ℕ} {R : Occ → Occ → Type 0} (t : ℕ) → t ≤ v.arity → {r : ℕ} → Says (width G p t) (code_on t (width G p t) x) (λ i k. R (t, i) (t, k))
      → RankOn s c v t x r → Ranked s c (width G p t) (get_or (slots G p) t 0) t R r
  ranked_on {s} {c} {x} {R} t k {r} says q =
      let e = kind_is a p l h t k in
      let m : member s (get_or (slots G p) t 0) r ≡ code_on t (width G p t) x
      = ap (λ (u : ℕ). member s u r) (sym e) ∙ q.is ∙ ap (λ (n : ℕ). code_on t n x) (width_is_of a p l h t k) in
      record {
        below = subst (λ (u : ℕ). r < get_or c u 0) e q.below;
        says = subst (λ (y : ℕ). Says (width G p t) y (λ i k. R (t, i) (t, k))) (sym m) says;
      }

  -- ── slots tied one after another ──
  module _ {τ : ℕ → ℕ → ℕ → Type 0} where
    pub show_once : (t y : ℕ) {x : List ℕ} → t < length (slots G p) → Relates G p τ t y → Showing G p τ t x → Showing G p τ (suc t) (tied_once v t y x)
    show_once t y k same s = rw (width_is_of a p l h t (omega (arith, arity_is a p l h))) (show_tie s y k (few_settings a p l t k) same)

    pub show_tied : (ys : List ℕ) (t : ℕ) {x : List ℕ} → t + length ys ≡ length (slots G p) → ((j : ℕ) → j < length ys → Relates G p τ (t + j) (get_or ys j 0))
        → Showing G p τ t x → Showing G p τ (length (slots G p)) (tied v t ys x)
    unfolding tied
    show_tied [] t {x} e same s = subst (λ n. Showing G p τ n x) (sym (add-zero t) ∙ e) s
    show_tied (y ∷ ys) t {x} e same s =
        show_tied ys (suc t) (omega arith)
        (λ j k. let q : t + suc j ≡ suc t + j = omega arith in subst (λ u. Relates G p τ u (get_or ys j 0)) q (same (suc j) (omega arith)))
        (show_once t y (omega arith) (subst (λ u. Relates G p τ u y) (add-zero t) (same 0 (omega arith))) s)

  -- ── all slots ──
  module _ (ys : List ℕ) (long : length ys ≡ length (G.kids p)) where
    -- THEOREM: the children's codes tied to the base
    pub up_shows : Showing G p (Below G p ys long) (length (slots G p)) (tied v 1 ys first)
    up_shows =
        show_tied ys 1 (omega arith)
        (λ j k. let q : suc j ≡ 1 + j = omega arith in subst (λ u. Relates G p (Below G p ys long) u (get_or ys j 0)) q (below_at G p ys long j (omega arith)))
        (show_skip (show_base a p l (Below G p ys long)) (λ i k r. r))

    -- THEOREM: and the left kind's before them
    pub down_shows : (y : ℕ) → Showing G p (Chosen G p y ys) (length (slots G p)) (tied v 1 ys (tied_once v 0 y first))
    down_shows y =
        show_tied ys 1 (omega arith)
        (λ j k. let q : suc j ≡ 1 + j = omega arith in subst (λ u. Relates G p (Chosen G p y ys) u (get_or ys j 0)) q (chosen_at G p ys long y (suc j) (omega arith)))
        (show_once 0 y (omega arith) (chosen_at G p ys long y 0 (omega arith)) (show_base a p l (Chosen G p y ys)))
