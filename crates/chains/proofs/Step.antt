-- What a production makes of relations in its slots can be tested, and so on each slot a code says it.
use mathlib.Core.Path.{◌≡◌, sym, ap, ◌∙◌, subst, Σ_path}
use mathlib.Core.Logic.Dec
use mathlib.Core.Logic.{◌⊎◌, inl, inr, ◌↔◌}
use mathlib.Core.List.{List}
use Prim.Native.Nat.{ℕ, zero, suc, ◌≤◌, ◌<◌}
use native.Mathlib.Omega.{arith}
use native.Mathlib.Decide.{ℕ_discrete}
use lib.ListN.{length, get_or}
use Rattle.chains.specs.Limits.{max_settings}
use Rattle.chains.specs.Grammar.{Occ, Grammar, Lawful, slots, width}
use Rattle.chains.specs.Chain.{Eqv, done, fwd, Slotwise, Join, Closure}
use Rattle.chains.specs.Grouping.{Says, Alike, Each}
use Rattle.chains.specs.Feasible.{Chosen}
use Rattle.chains.proofs.Closure.{bind}
use Rattle.chains.proofs.Decided.{Partial, Decided, dec_and, none_partial, or_equal, decided_map, OrNamed, closure_decided}
use Rattle.chains.proofs.Says.{says_decided, alike_decided, each_partial}
use Rattle.chains.proofs.Alike.{Kept, alike_iff, alike_kept, closure_kept}

-- ---- the closure can be tested
-- occurrences of one slot that τ relates there
abbrev Level : (ℕ → ℕ → ℕ → Type 0) → Occ → Occ → Type 0
Level τ o o' = (o.0 ≡ o'.0) × τ o.0 o.1 o'.1

level_partial : (τ : ℕ → ℕ → ℕ → Type 0) → ((s : ℕ) → Partial (τ s)) → Partial (Level τ)
level_partial τ d = record {
  turn = λ o q r. (sym r.0, subst (λ s. τ s q.1 o.1) r.0 ((d o.0).turn o.1 q.1 r.1));
  through = λ o q w r t. (r.0 ∙ t.0, (d o.0).through o.1 q.1 w.1 r.1 (subst (λ s. τ s q.1 w.1) (sym r.0) t.1));
  test = λ o q. dec_and (ℕ_discrete o.0 q.0) ((d o.0).test o.1 q.1);
}

occ_discrete : (o q : Occ) → Dec (o ≡ q)
occ_discrete o q = Dec.of_iff (λ e. Σ_path e.0 e.1, λ e. (ap (λ (x : Occ). x.0) e, ap (λ (x : Occ). x.1) e)) (dec_and (ℕ_discrete o.0 q.0) (ℕ_discrete o.1 q.1))

module _ (G : Grammar) (p : ℕ) (τ : ℕ → ℕ → ℕ → Type 0) where
  abbrev Start : Occ → Occ → Type 0
  Start o q = (o ≡ q) ⊎ Level τ o q

  started : (o q : Occ) → OrNamed Start (G.ties p) o q → Closure G p τ o q
  started o q (inl (inl e)) = subst (Closure G p τ o) e done
  started o q (inl (inr t)) = fwd done (inr t)
  started o q (inr t) = fwd done (inl t)

  start : (o q : Occ) → Join G p τ o q → Eqv (OrNamed Start (G.ties p)) o q
  start o q (inl t) = fwd done (inr t)
  start o q (inr t) = fwd done (inl (inr t))

  -- where each slot's relation can be tested, so can the closure
  pub closure_tested : ((s : ℕ) → Partial (τ s)) → Decided (Closure G p τ)
  closure_tested d = decided_map (λ o q. (bind started, bind start)) (closure_decided (G.ties p) (or_equal occ_discrete (level_partial τ d)))

-- ---- so that on each slot a code says it
module _ (G : Grammar) (L : Lawful G) (p : ℕ) (hp : p < G.prods) where
  pub width_few : (s : ℕ) → s < length (slots G p) → width G p s ≤ max_settings
  width_few zero h = L.few_settings (G.left p) (L.left_in p hp)
  width_few (suc j) h = L.few_settings (get_or (G.kids p) j 0) (L.kids_in p j hp (omega arith))

  module _ (ρ : ℕ → ℕ → Type 0) (d : Partial ρ) (cs : List ℕ) where
    slot_partial : (s : ℕ) → Partial (Slotwise ρ (Each G (G.kids p) cs) s)
    slot_partial zero = d
    slot_partial (suc j) = each_partial G (G.kids p) cs j

    -- THEOREM: whatever slot 0 relates, if it can be tested, and whatever codes the children have, some code says the closure on slot s
    pub step_exists : (s : ℕ) → s < length (slots G p) → (c : ℕ) × Says (width G p s) c (λ a b. Closure G p (Slotwise ρ (Each G (G.kids p) cs)) (s, a) (s, b))
    step_exists s h = says_decided (width G p s) (width_few s h) (λ a b. Closure G p (Slotwise ρ (Each G (G.kids p) cs)) (s, a) (s, b)) on_slot
      where
        whole : Decided (Closure G p (Slotwise ρ (Each G (G.kids p) cs)))
        whole = closure_tested G p (Slotwise ρ (Each G (G.kids p) cs)) slot_partial

        on_slot : Decided (λ a b. Closure G p (Slotwise ρ (Each G (G.kids p) cs)) (s, a) (s, b))
        on_slot = record {
          part = record {
            turn = λ a b r. whole.part.turn (s, a) (s, b) r;
            through = λ a b e r q. whole.part.through (s, a) (s, b) (s, e) r q;
            test = λ a b. whole.part.test (s, a) (s, b);
          };
          self = λ a. done;
        }

    -- where ρ relates nothing out of range, that code relates what the closure does
    pub step_alike : Kept (G.settings (G.left p)) ρ → (s c : ℕ) → Says (width G p s) c (λ a b. Closure G p (Slotwise ρ (Each G (G.kids p) cs)) (s, a) (s, b))
        → (a b : ℕ) → Alike G (get_or (slots G p) s 0) c a b ↔ Closure G p (Slotwise ρ (Each G (G.kids p) cs)) (s, a) (s, b)
    step_alike kept s c u =
        alike_iff G (get_or (slots G p) s 0) c (λ a b. Closure G p (Slotwise ρ (Each G (G.kids p) cs)) (s, a) (s, b)) u (λ a. done) (closure_kept G L p hp ρ kept cs s)

  -- THEOREM: codes of the children give a code of the left kind
  pub up_exists : (cs : List ℕ) → (c : ℕ) × Says (G.settings (G.left p)) c (λ a b. Closure G p (Slotwise (λ a b. ⊥) (Each G (G.kids p) cs)) (0, a) (0, b))
  up_exists cs = step_exists (λ a b. ⊥) none_partial cs 0 (omega arith)

  pub up_alike : (c : ℕ) (cs : List ℕ) → Says (G.settings (G.left p)) c (λ a b. Closure G p (Slotwise (λ a b. ⊥) (Each G (G.kids p) cs)) (0, a) (0, b))
      → (a b : ℕ) → Alike G (G.left p) c a b ↔ Closure G p (Slotwise (λ a b. ⊥) (Each G (G.kids p) cs)) (0, a) (0, b)
  up_alike c cs u = step_alike (λ a b. ⊥) none_partial cs (λ a b r. absurd r) 0 c u

  -- THEOREM: codes of the left kind and of the children give a code of each child's kind (for request 4: nothing cites it yet)
  pub down_exists : (c : ℕ) (cs : List ℕ) (j : ℕ) → j < length (G.kids p) → (d : ℕ) × Says (G.settings (get_or (G.kids p) j 0)) d (λ a b. Closure G p (Chosen G p c cs) (suc j, a) (suc j, b))
  down_exists c cs j h = step_exists (Alike G (G.left p) c) (alike_decided G (G.left p) c).part cs (suc j) (omega arith)

  pub down_alike : (c : ℕ) (cs : List ℕ) (s d : ℕ) → Says (width G p s) d (λ a b. Closure G p (Chosen G p c cs) (s, a) (s, b))
      → (a b : ℕ) → Alike G (get_or (slots G p) s 0) d a b ↔ Closure G p (Chosen G p c cs) (s, a) (s, b)
  down_alike c cs s d u = step_alike (Alike G (G.left p) c) (alike_decided G (G.left p) c).part cs (alike_kept G (G.left p) c) s d u
