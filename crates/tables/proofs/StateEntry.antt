-- A production's slots tied one after another: the state comes to show the closure of the dependences and of every slot's code, which is what an
-- entry of the tables is made of.
use mathlib.Core.Path.{◌≡◌, sym, ◌∙◌, subst, subst₂}
use mathlib.Core.Logic.{◌⊎◌, inl, inr, ◌↔◌}
use mathlib.Core.List.{List, ◌∷◌}
use Prim.Native.Nat.{ℕ, zero, suc, ◌+◌, ◌*◌, ◌/◌, ◌%◌, ◌≤◌, ◌<◌}
use native.Mathlib.Omega.{arith}
use lib.ListN.{length, get_or}
use Rattle.lists.proofs.Order.{by_order}
use Rattle.chains.specs.Limits.{max_settings, max_kids}
use Rattle.chains.specs.Grammar.{Occ, Grammar, slots, width, Exists, Tied}
use Rattle.chains.specs.Chain.{Eqv, done, fwd, Slotwise, Join, Closure}
use Rattle.chains.specs.Grouping.{Says, Alike, Each}
use Rattle.chains.specs.Feasible.{Chosen}
use Rattle.chains.specs.Labels.{joins}
use Rattle.chains.specs.Gather.{TiedTo}
use Rattle.chains.specs.State.{number, Shown, code_on, code_pairs}
use Rattle.chains.proofs.Closure.{bind, more}
use Rattle.chains.proofs.Labels.{keeps}
use Rattle.chains.proofs.Says.{says_map, each_alike, each_slot}
use Rattle.chains.proofs.State.{code_says}
use Rattle.chains.proofs.Tying.{tied_shown}
use Rattle.book.specs.Format.{occ, prods, entry, grammar}
use Rattle.bookcheck.specs.Accepted.{Accepted}
use Rattle.ranks.specs.Entries.{none}
use Rattle.tables.specs.Entries.{Labelled}
use Rattle.tables.specs.State.{Present, Same, State, spot, Whole, tidied, based}
use Rattle.tables.proofs.State.{tie_means}
use Rattle.tables.proofs.StateTidy.{tidy_labelled}
use Rattle.tables.proofs.StateBase.{base_state, base_present, base_chains}

-- the dependences, and what τ relates in the first n slots
abbrev pub UpToSlot : Grammar → ℕ → (ℕ → ℕ → ℕ → Type 0) → ℕ → Occ → Occ → Type 0
UpToSlot G p τ n o q = Tied G p o q ⊎ ((o.0 ≡ q.0) × (o.0 < n) × τ o.0 o.1 q.1)

-- the state s of production p's occurrences shows the closure of that
pub record Showing (G : Grammar) (p : ℕ) (τ : ℕ → ℕ → ℕ → Type 0) (n : ℕ) (s : List ℕ) : Type 0 where
  pub state : State s
  pub present : (o : ℕ) → Present s o ↔ Exists G p (occ o)
  pub chains : (o q : Occ) → Eqv (Shown s) o q ↔ Eqv (UpToSlot G p τ n) o q

-- no slot yet
pub show_base : {b : List ℕ} (a : Accepted b) (p : ℕ) (l : p < prods b) (τ : ℕ → ℕ → ℕ → Type 0) → Showing (grammar b) p τ 0 (based b (entry b p))
show_base {b} a p l τ = record {
  state = base_state a p l;
  present = base_present a p l;
  chains = λ o q. let t = base_chains a p l o q in (λ c. more (λ o q e. inl e) (t.0 c), λ c. t.1 (more only c));
}
  where
    only : (o q : Occ) → UpToSlot (grammar b) p τ 0 o q → Tied (grammar b) p o q
    only o q (inl e) = e
    only o q (inr (u, h, r)) = absurd (omega arith)

module _ {G : Grammar} {p : ℕ} {τ : ℕ → ℕ → ℕ → Type 0} {n : ℕ} {s : List ℕ} (h : Showing G p τ n s) where
  -- the settings of a slot are there
  pub show_whole : (t : ℕ) → t < length (slots G p) → width G p t ≤ max_settings → Whole s t (width G p t)
  show_whole t ht hw x hx =
      let d : spot t x / max_settings ≡ t = omega arith in
      let m : spot t x % max_settings ≡ x = omega arith in
      (h.present (spot t x)).1 (rw d ht, rw (d, m) hx)

  -- a slot in which τ relates nothing
  pub show_skip : ((a b : ℕ) → τ n a b → ⊥) → Showing G p τ (suc n) s
  show_skip void = record {
    state = h.state;
    present = h.present;
    chains = λ o q. let t = h.chains o q in (λ c. more wider (t.0 c), λ c. t.1 (more narrower c));
  }
    where
      wider : (o q : Occ) → UpToSlot G p τ n o q → UpToSlot G p τ (suc n) o q
      wider o q (inl e) = inl e
      wider o q (inr (u, k, r)) = inr (u, omega arith, r)

      narrower : (o q : Occ) → UpToSlot G p τ (suc n) o q → UpToSlot G p τ n o q
      narrower o q (inl e) = inl e
      narrower o q (inr (u, k, r)) =
          inr (u, by_order (o.0 < n) o.0 n (λ e. absurd (void o.1 q.1 (subst (λ t. τ t o.1 q.1) e r))) (λ b. b) (λ b. absurd (omega arith)), r)

  -- THEOREM: one slot more, tied by the code that relates what τ does there
  pub show_tie : (c : ℕ) → n < length (slots G p) → width G p n ≤ max_settings → ((a b : ℕ) → τ n a b ↔ Alike G (get_or (slots G p) n 0) c a b)
      → Showing G p τ (suc n) (joins s (code_pairs n (width G p n) c))
  show_tie c hn hw same =
      let w = show_whole n hn hw in
      let m = tie_means h.state n (width G p n) c hw w in
      record {
        state = m.state;
        present = λ o. (λ k. (h.present o).0 ((m.present o).0 k), λ e. (m.present o).1 ((h.present o).1 e));
        chains = λ o q. let t = tied_shown G p n c hw s w o q in (λ k. bind to (t.0 k), λ k. t.1 (bind from k));
      }
    where
      wider : (o q : Occ) → UpToSlot G p τ n o q → UpToSlot G p τ (suc n) o q
      wider o q (inl e) = inl e
      wider o q (inr (u, k, r)) = inr (u, omega arith, r)

      to : (o q : Occ) → TiedTo G p n c (Shown s) o q → Eqv (UpToSlot G p τ (suc n)) o q
      to o q (inl e) = more wider ((h.chains o q).0 (fwd done e))
      to o q (inr (u, v, i)) =
          let r : τ o.0 o.1 q.1 = subst (λ t. τ t o.1 q.1) (sym u) ((same o.1 q.1).1 i) in
          fwd done (inr (u ∙ sym v, omega arith, r))

      from : (o q : Occ) → UpToSlot G p τ (suc n) o q → Eqv (TiedTo G p n c (Shown s)) o q
      from o q (inl e) = more (λ o q e. inl e) ((h.chains o q).1 (fwd done (inl e)))
      from o q (inr (u, k, r)) =
          by_order (Eqv (TiedTo G p n c (Shown s)) o q) o.0 n
          (λ e. fwd done (inr (e, sym u ∙ e, (same o.1 q.1).0 (subst (λ t. τ t o.1 q.1) e r))))
          (λ b. more (λ o q e. inl e) ((h.chains o q).1 (fwd done (inr (u, b, r)))))
          (λ b. absurd (omega arith))

  -- ---- every slot in which τ relates anything is tied
  module _ (all : (t a b : ℕ) → n ≤ t → τ t a b → ⊥) where
    -- THEOREM: the state shows the closure
    pub show_closure : (o q : Occ) → Eqv (Shown s) o q ↔ Closure G p τ o q
    show_closure o q = let t = h.chains o q in (λ c. more to (t.0 c), λ c. t.1 (more from c))
      where
        to : (o q : Occ) → UpToSlot G p τ n o q → Join G p τ o q
        to o q (inl e) = inl e
        to o q (inr (u, k, r)) = inr (u, r)

        from : (o q : Occ) → Join G p τ o q → UpToSlot G p τ n o q
        from o q (inl e) = inl e
        from o q (inr (u, r)) = inr (u, by_order (o.0 < n) o.0 n (λ e. absurd (all o.0 o.1 q.1 (omega arith) r)) (λ k. k) (λ k. absurd (all o.0 o.1 q.1 (omega arith) r)), r)

    -- THEOREM: the code of a slot says what the closure relates there
    pub show_says : (t : ℕ) → t < length (slots G p) → t ≤ max_kids → width G p t ≤ max_settings
        → Says (width G p t) (code_on t (width G p t) s) (λ a b. Closure G p τ (t, a) (t, b))
    show_says t ht hk hw =
        says_map (code_says s t (width G p t) hw (omega (arith, h.state.long)) (show_whole t ht hw)) (λ a b ha hb. show_closure (t, a) (t, b))

    -- THEOREM: tidied, the state is the labels of a down entry
    pub show_labelled : Labelled G p (Closure G p τ) (tidied s)
    show_labelled = tidy_labelled G p (Closure G p τ) h.state (λ o k. h.present o) groups
      where
        whole : (x : ℕ) → x / max_settings * max_settings + x % max_settings ≡ x
        whole x = omega arith

        groups : (o o' : ℕ) → Present s o → Present s o' → Same s o o' ↔ Closure G p τ (occ o) (occ o')
        groups o o' k k' =
            let t = show_closure (occ o) (occ o') in (
              λ e. t.0 (fwd done (omega arith, omega arith, rw (whole o, whole o') e)),
              λ c. (k, k', subst₂ (λ x y. get_or s x none ≡ get_or s y none) (whole o) (whole o') (keeps (λ q. get_or s (number q) none) (λ x y r. r.2.2) (t.1 c))),
            )

-- ---- what codes of the slots relate
module _ (G : Grammar) (p : ℕ) (cs : List ℕ) (long : length cs ≡ length (G.kids p)) where
  -- the children's codes, and nothing of the left kind
  abbrev pub Below : ℕ → ℕ → ℕ → Type 0
  Below = Slotwise (λ a b. ⊥) (Each G (G.kids p) cs)

  pub below_at : (j : ℕ) → j < length (G.kids p) → (a b : ℕ) → Below (suc j) a b ↔ Alike G (get_or (slots G p) (suc j) 0) (get_or cs j 0) a b
  below_at j h a b = each_alike G (G.kids p) cs long j h a b

  pub below_all : (t a b : ℕ) → length (slots G p) ≤ t → Below t a b → ⊥
  below_all zero a b h r = r
  below_all (suc j) a b h r = let k = each_slot G (G.kids p) cs j a b r in omega arith

  -- the left kind's code besides
  pub chosen_at : (x t : ℕ) → t < length (slots G p) → (a b : ℕ) → Chosen G p x cs t a b ↔ Alike G (get_or (slots G p) t 0) (get_or (x ∷ cs) t 0) a b
  chosen_at x zero h a b = (λ r. r, λ r. r)
  chosen_at x (suc j) h a b = each_alike G (G.kids p) cs long j (omega arith) a b

  pub chosen_all : (x t a b : ℕ) → length (slots G p) ≤ t → Chosen G p x cs t a b → ⊥
  chosen_all x zero a b h r = absurd (omega arith)
  chosen_all x (suc j) a b h r = let k = each_slot G (G.kids p) cs j a b r in omega arith
