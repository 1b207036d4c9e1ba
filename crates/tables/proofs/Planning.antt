-- A visit made ready off an accepted book is one of its production: its turns' slots are tied with the codes of their kinds.
use mathlib.Core.Path.{◌≡◌, sym, ap, ◌∙◌, subst}
use mathlib.Core.Logic.{◌↔◌}
use mathlib.Core.List.{List}
use Prim.Native.Nat.{ℕ, ◌≤◌, ◌<◌}
use native.Mathlib.Omega.{arith}
use lib.ListN.{length, get_or}
use Rattle.chains.specs.Limits.{max_kids}
use Rattle.chains.specs.Grammar.{Grammar, slots, width, Tied}
use Rattle.chains.specs.Gather.{Result}
use Rattle.chains.specs.State.{Shown}
use Rattle.chains.proofs.Gather.{result_open}
use Rattle.book.specs.Format.{entry, prods, grammar}
use Rattle.book.specs.Reading.{kind_in}
use Rattle.bookcheck.specs.Accepted.{Accepted}
use Rattle.bookcheck.proofs.Accepted.{arity_read, kind_in_read}
use Rattle.members.specs.Sets.{Has, member, Placed}
use Rattle.tables.specs.State.{width_in, based}
use Rattle.tables.specs.Visit.{max_turns, slot_of, width_of, size_of, code_of, Yields, Ready, Standing, InOrder, Opening, Prepared}
use Rattle.tables.specs.declared.visit.Visit.{Visit}
use Rattle.members.proofs.Ranked.{ranked_has, rank_of}
use Rattle.tables.proofs.StateBase.{few_kids, width_is, few_settings, readable, base_state}
use Rattle.tables.proofs.StateWalk.{base_whole, base_result}
use Rattle.tables.proofs.Yielding.{Among, Planned, yields_result}

module _ {b : List ℕ} (a : Accepted b) (p : ℕ) (l : p < prods b) where
  abbrev G : Grammar
  G = grammar b

  abbrev kind_on : ℕ → ℕ
  kind_on s = get_or (slots (grammar b) p) s 0

  module _ {t n : ℕ} {σ : ℕ → ℕ} {S C : ℕ → List ℕ} {v : Visit} (h : Opening b (entry b p) t σ S C v n)
      (target : t < length (slots (grammar b) p))
      (few : n ≤ max_turns)
      (inside : (i : ℕ) → i < n → σ i < length (slots (grammar b) p))
      (apart : (i k : ℕ) → i < k → k < n → σ i ≡ σ k → ⊥)
      (placed : (i : ℕ) → i < n → Placed (S i) (C i) (kind_on (σ i))) where
    -- slots of the book are slots of its grammar
    width_at : (s : ℕ) → s < length (slots (grammar b) p) → width_in b (entry b p) s ≡ width G p s
    width_at s k = width_is a p l s (omega (arith, arity_read a p l))

    kind_at : (s : ℕ) → s < length (slots (grammar b) p) → kind_in b (entry b p) s ≡ kind_on s
    kind_at s k = kind_in_read a p l s k

    slot_low : (s : ℕ) → s < length (slots (grammar b) p) → s ≤ max_kids
    slot_low s k = omega (arith, few_kids a p l, arity_read a p l)

    turn_slot : (i : ℕ) → i < n → slot_of v i ≡ σ i
    turn_slot i k = (h.taken i k).slot_is

    turn_width : (i : ℕ) → i < n → width_of v i ≡ width G p (σ i)
    turn_width i k = (h.taken i k).width_is ∙ width_at (σ i) (inside i k)

    pub plan_kind : v.kind ≡ kind_on t
    plan_kind = h.kind ∙ kind_at t target

    looked : v.width ≡ width G p t
    looked = h.width ∙ width_at t target

    plan_ready : Ready v n
    plan_ready = record {
      target = rw h.target (slot_low t target);
      width = rw looked (few_settings a p l t target);
      few = few;
      slots = λ i k. rw (turn_slot i k) (slot_low (σ i) (inside i k));
      widths = λ i k. rw (turn_width i k) (few_settings a p l (σ i) (inside i k));
      sizes = λ i k. (h.taken i k).few;
      apart = λ i k q r e. apart i k q r (sym (turn_slot i (omega arith)) ∙ e ∙ turn_slot k r);
    }

    plan_standing : Standing v n (based b (entry b p))
    plan_standing = record {
      state = base_state a p l;
      looked_at = rw (h.target, looked) (base_whole a p l t target);
      ahead = λ i k. rw (turn_slot i k, turn_width i k) (base_whole a p l (σ i) (inside i k));
    }

    -- THEOREM: it may be made
    pub plan_prepared : {s c : List ℕ} → InOrder v.kind s c → Prepared b (entry b p) v s c
    plan_prepared o = record { readable = readable a p l; ready = subst (Ready v) (sym h.opened) plan_ready; standing = subst (λ k. Standing v k (based b (entry b p))) (sym h.opened) plan_standing; order = o }

    module _ (Codes : ℕ → ℕ → Type 0) (codes : (i c : ℕ) → i < n → Codes (σ i) c ↔ Has (S i) (C i) (kind_on (σ i)) c) where
      planned : Planned G p v Codes n
      planned = record {
        ready = plan_ready;
        width_is = looked ∙ ap (width G p) (sym h.target);
        widths_are = λ i k. turn_width i k ∙ ap (width G p) (sym (turn_slot i k));
        codes_are = λ i c k. rw (turn_slot i k) (λ m. to i c k ((codes i c k).0 m), λ r. (codes i c k).1 (from i c k r));
      }
        where
          size : (i : ℕ) → i < n → size_of v i ≡ get_or (C i) (kind_on (σ i)) 0
          size i k = (h.taken i k).size_is ∙ ap (λ (j : ℕ). get_or (C i) j 0) (kind_at (σ i) (inside i k))

          code : (i r : ℕ) → i < n → r < size_of v i → code_of v i r ≡ member (S i) (kind_on (σ i)) r
          code i r k q = (h.taken i k).codes_are r q ∙ ap (λ (j : ℕ). member (S i) j r) (kind_at (σ i) (inside i k))

          to : (i c : ℕ) → i < n → Has (S i) (C i) (kind_on (σ i)) c → (r : ℕ) × (r < size_of v i) × (code_of v i r ≡ c)
          to i c k m =
              let (r, q, e) = rank_of (placed i k) m in
              let z : r < size_of v i = omega (arith, size i k) in
              (r, z, code i r k z ∙ e)

          from : (i c : ℕ) → i < n → (r : ℕ) × (r < size_of v i) × (code_of v i r ≡ c) → Has (S i) (C i) (kind_on (σ i)) c
          from i c k (r, q, e) = subst (Has (S i) (C i) (kind_on (σ i))) (sym (code i r k q) ∙ e) (ranked_has (placed i k) r (omega (arith, size i k)))

      -- THEOREM: and yields what is gathered over its production's slots
      pub plan_result : (Open : ℕ → Type 0) → ((s : ℕ) → ((i : ℕ) × (i < n) × (σ i ≡ s)) ↔ Open s) → (x : ℕ)
          → Yields v n (based b (entry b p)) x ↔ Result G p t Codes Open (Tied G p) x
      plan_result Open opened x =
          let y = subst (λ t. Yields v n (based b (entry b p)) x ↔ Result G p t Codes (Among v n) (Shown (based b (entry b p))) x) h.target
          (yields_result G p v Codes n planned plan_standing x) in
          let o = result_open G p t Codes (Among v n) Open (Shown (based b (entry b p))) x (λ s. (λ (i, k, e). (opened s).0 (i, k, sym (turn_slot i k) ∙ e), λ m. back s ((opened s).1 m))) in
          let d = base_result a p l t Codes Open x in
          (λ m. d.0 (o.0 (y.0 m)), λ m. y.1 (o.1 (d.1 m)))
        where
          back : (s : ℕ) → (i : ℕ) × (i < n) × (σ i ≡ s) → Among v n s
          back s (i, k, e) = (i, k, turn_slot i k ∙ e)
