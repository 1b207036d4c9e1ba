-- A visit made ready: each turn that is opened leaves those before it as they were.
use mathlib.Core.Path.{◌≡◌, sym, ap, ◌∙◌, subst}
use mathlib.Core.List.{List}
use Prim.Native.Nat.{ℕ, ◌+◌, ◌*◌, ◌≤◌, ◌<◌}
use native.Mathlib.Omega.{arith}
use native.Mathlib.Decide.{ℕ_discrete}
use Rattle.lists.specs.Part.{place}
use lib.ListN.{length, get_or, length-set}
use lib.Seq.{get_or-set_same, get_or-set_other}
use Rattle.lists.proofs.Order.{by_order}
use Rattle.lists.proofs.Parts.{get_d_part, place_long, get_d_this}
use Rattle.chains.specs.Limits.{max_members}
use Rattle.book.specs.Reading.{kind_in}
use Rattle.members.specs.Sets.{members, Placed}
use Rattle.tables.specs.State.{width_in}
use Rattle.tables.specs.Visit.{max_turns, no_turn, turn_of, size_of, Opened, TurnGiven, Sized, Opening}
use Rattle.tables.specs.declared.visit.Turn.{Turn}
use Rattle.tables.specs.declared.visit.Visit.{Visit}
use Rattle.members.proofs.Ranked.{members_long}

module _ {b : List ℕ} {at : ℕ} {s c : List ℕ} {v v' : Visit} {slot : ℕ}
    (z : Sized v) (few : v.opened < max_turns) (p : Placed s c (kind_in b at slot)) (o : Opened b at s c v slot v') where
  room : 0 + length (members s c (kind_in b at slot)) ≤ length (turn_of v v.opened).codes
  room = omega (arith, z.codes v.opened few, members_long p, p.few)

  abbrev given : Turn
  given = record { slot = slot; width = width_in b at slot; size = get_or c (kind_in b at slot) 0; codes = place 0 (members s c (kind_in b at slot)) (turn_of v v.opened).codes }

  turn_now : turn_of v' v.opened ≡ given
  turn_now = ap (λ (l : List Turn). get_or l v.opened no_turn) o.turns_now ∙ get_or-set_same v.turns v.opened given no_turn (omega (arith, z.turns))

  turn_before : (i : ℕ) → (i ≡ v.opened → ⊥) → turn_of v' i ≡ turn_of v i
  turn_before i n = ap (λ (l : List Turn). get_or l i no_turn) o.turns_now ∙ get_or-set_other v.turns v.opened i given no_turn n

  pub opened_sized : Sized v'
  opened_sized = record { turns = ap length o.turns_now ∙ length-set v.turns v.opened _ ∙ z.turns; codes = λ i h. long i h (ℕ_discrete i v.opened) }
    where
      long : (i : ℕ) → i < max_turns → Dec (i ≡ v.opened) → length (turn_of v' i).codes ≡ max_members
      long i h (yes e) = rw (e, turn_now) (place_long (turn_of v v.opened).codes 0 (members s c (kind_in b at slot)) room ∙ z.codes v.opened few)
      long i h (no n) = rw (turn_before i n) (z.codes i h)

  -- the turn itself
  pub opened_this : TurnGiven b at s c v' v.opened slot
  opened_this =
      let size_now : size_of v' v.opened ≡ get_or c (kind_in b at slot) 0 = ap (λ (t : Turn). t.size) turn_now in
      record {
        slot_is = ap (λ (t : Turn). t.slot) turn_now;
        width_is = ap (λ (t : Turn). t.width) turn_now;
        size_is = size_now;
        few = omega (arith, size_now, p.few);
        codes_are = λ r h.
            let k : r < get_or c (kind_in b at slot) 0 = omega (arith, size_now) in
            let z : 0 + r ≡ r = omega arith in
            ap (λ (t : Turn). get_or t.codes r 0) turn_now
            ∙ rw z at (get_d_this (turn_of v v.opened).codes 0 (members s c (kind_in b at slot)) room r 0 (omega (arith, members_long p)))
            ∙ get_d_part (kind_in b at slot * max_members) (get_or c (kind_in b at slot) 0) s r 0 k;
      }

  -- a turn before it
  pub opened_before : {s₀ c₀ : List ℕ} {i t : ℕ} → i < v.opened → TurnGiven b at s₀ c₀ v i t → TurnGiven b at s₀ c₀ v' i t
  opened_before {i = i} h u =
      let t : turn_of v' i ≡ turn_of v i = turn_before i (λ e. omega arith) in
      record {
        slot_is = ap (λ (t : Turn). t.slot) t ∙ u.slot_is;
        width_is = ap (λ (t : Turn). t.width) t ∙ u.width_is;
        size_is = ap (λ (t : Turn). t.size) t ∙ u.size_is;
        few = rw (size_of, t) u.few;
        codes_are = λ r m. ap (λ (w : Turn). get_or w.codes r 0) t ∙ u.codes_are r (rw (size_of, t) at m);
      }

-- THEOREM: one turn more
pub opening_more : {b : List ℕ} {at t : ℕ} {σ : ℕ → ℕ} {S C : ℕ → List ℕ} {v v' : Visit} {j slot : ℕ} → Opening b at t σ S C v j → j < max_turns → slot ≡ σ j
    → Placed (S j) (C j) (kind_in b at (σ j)) → Opened b at (S j) (C j) v slot v' → Opening b at t σ S C v' (j + 1)
opening_more {b} {at} {t} {σ} {S} {C} {v} {v'} {j} {slot} h few e p o =
    let w : Opened b at (S j) (C j) v (σ j) v' = rw e at o in
    let l : v.opened < max_turns = omega (arith, h.opened) in
    record {
      sized = opened_sized h.sized l p w;
      opened = w.opened_now ∙ ap (λ (k : ℕ). k + 1) h.opened;
      target = w.rest.0 ∙ h.target;
      width = w.rest.1 ∙ h.width;
      kind = w.rest.2 ∙ h.kind;
      taken = λ i l'. by_order _ i j (λ q. subst (λ k. TurnGiven b at (S k) (C k) v' k (σ k)) (sym q) (subst (λ k. TurnGiven b at (S j) (C j) v' k (σ j)) h.opened (opened_this h.sized l p w))) (λ q. opened_before h.sized l p w (omega (arith, h.opened)) (h.taken i q)) (λ q. absurd (omega arith));
    }
