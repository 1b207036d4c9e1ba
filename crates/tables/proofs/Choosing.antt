-- A turn of a visit, on its states: where all is there that later turns tie and that is looked at, it is there afterwards.
use mathlib.Core.Path.{◌≡◌, refl, sym}
use mathlib.Core.Bool.{Bool, true, false}
use mathlib.Core.List.{List}
use Prim.Native.Nat.{ℕ, suc, ◌≤◌}
use native.Mathlib.Omega.{arith}
use borrow.Author.Tests.{eqb-false, eq-eqb, ne_eqb}
use lib.Dec.{eqb}
use Rattle.lists.specs.Pick.{pick}
use Rattle.chains.specs.Limits.{max_settings, max_kids}
use Rattle.chains.specs.State.{dropped}
use Rattle.tables.specs.State.{State, spot, Whole, tidied}
use Rattle.tables.specs.Visit.{slot_of, width_of, tied, chosen, Ready, Standing}
use Rattle.tables.specs.declared.visit.Visit.{Visit}
use Rattle.tables.proofs.State.{tie_means}
use Rattle.tables.proofs.StateTidy.{tidy_state, tidy_present}
use Rattle.tables.proofs.StateWalk.{step_state, step_whole}

-- fewer turns ask less
pub ready_less : {v : Visit} {j : ℕ} → Ready v (suc j) → Ready v j
ready_less r = record {
  target = r.target;
  width = r.width;
  few = omega (arith, r.few);
  slots = λ i h. r.slots i (omega arith);
  widths = λ i h. r.widths i (omega arith);
  sizes = λ i h. r.sizes i (omega arith);
  apart = λ i k h g. r.apart i k h (omega arith);
}

module _ {v : Visit} {j : ℕ} {s : List ℕ} (r : Ready v (suc j)) (h : Standing v (suc j) s) (c : ℕ) where
  slot_low : slot_of v j ≤ max_kids
  slot_low = r.slots j (omega arith)

  width_low : width_of v j ≤ max_settings
  width_low = r.widths j (omega arith)

  here : Whole s (slot_of v j) (width_of v j)
  here = h.ahead j (omega arith)

  pub tied_state : State (tied v j c s)
  tied_state = (tie_means h.state (slot_of v j) (width_of v j) c width_low here).state

  tied_whole : (t a : ℕ) → Whole s t a → Whole (tied v j c s) t a
  tied_whole t a w x l = ((tie_means h.state (slot_of v j) (width_of v j) c width_low here).present (spot t x)).1 (w x l)

  -- the slot is dropped, or it is the one looked at
  pub chosen_dropped : {u₁ u₂ u₃ : List ℕ} → u₁ ≡ tied v j c s → (slot_of v j ≡ v.target → ⊥) → u₂ ≡ dropped (slot_of v j) u₁ → u₃ ≡ tidied u₂ → u₃ ≡ chosen v j c s
  unfolding chosen
  chosen_dropped e n f g = rw (ne_eqb (slot_of v j) v.target n, g, f, e)

  pub chosen_kept : {u₁ u₂ : List ℕ} → u₁ ≡ tied v j c s → slot_of v j ≡ v.target → u₂ ≡ tidied u₁ → u₂ ≡ chosen v j c s
  unfolding chosen
  chosen_kept e p g = rw (eq-eqb (slot_of v j) v.target p, g, e)

  -- THEOREM: what the later turns tie, and what is looked at, is there after the turn
  pub chosen_standing : Standing v j (chosen v j c s)
  unfolding chosen
  chosen_standing = go (eqb (slot_of v j) v.target) refl
    where
      go : (b : Bool) → eqb (slot_of v j) v.target ≡ b → Standing v j (tidied (pick b (tied v j c s) (dropped (slot_of v j) (tied v j c s))))
      go true e = record {
        state = tidy_state tied_state;
        looked_at = λ x l. (tidy_present tied_state (spot v.target x)).1 (tied_whole v.target v.width h.looked_at x l);
        ahead = λ i b x l. (tidy_present tied_state (spot (slot_of v i) x)).1 (tied_whole (slot_of v i) (width_of v i) (h.ahead i (omega arith)) x l);
      }
      go false e = record {
        state = step_state h.state (slot_of v j) (width_of v j) c slot_low width_low here;
        looked_at = step_whole h.state (slot_of v j) (width_of v j) c slot_low width_low here v.target v.width (λ q. eqb-false (slot_of v j) v.target e (sym q)) r.width h.looked_at;
        ahead = λ i b.
            step_whole h.state (slot_of v j) (width_of v j) c slot_low width_low here (slot_of v i) (width_of v i) (r.apart i j b (omega arith)) (r.widths i (omega arith))
            (h.ahead i (omega arith));
      }
