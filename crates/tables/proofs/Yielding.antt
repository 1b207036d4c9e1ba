-- What comes of a state by choices for a visit's turns is what the walk over the production's slots gathers, whatever the order of the turns.
use mathlib.Core.Path.{◌≡◌, refl, sym, ◌∙◌, subst}
use mathlib.Core.Logic.{◌⊎◌, inl, inr, ◌↔◌}
use mathlib.Core.Bool.{Bool, true, false}
use mathlib.Core.List.{List}
use Prim.Native.Nat.{ℕ, zero, suc, ◌≤◌, ◌<◌}
use native.Mathlib.Omega.{arith}
use borrow.Author.Tests.{eqb-true, eqb-false}
use lib.Dec.{eqb}
use Rattle.lists.specs.Pick.{pick}
use Rattle.lists.proofs.Order.{by_order}
use Rattle.chains.specs.Limits.{max_settings}
use Rattle.chains.specs.Grammar.{Occ, Grammar, width}
use Rattle.chains.specs.Chain.{Eqv, done, fwd}
use Rattle.chains.specs.Labels.{joins}
use Rattle.chains.specs.Gather.{Result, TiedTo, Remaining, Outside}
use Rattle.chains.specs.State.{Shown, dropped, code_pairs}
use Rattle.chains.proofs.Closure.{more}
use Rattle.chains.proofs.Gather.{result_map, result_open, result_none, result_more}
use Rattle.chains.proofs.Tying.{tied_shown}
use Rattle.tables.specs.State.{State, Whole, tidied}
use Rattle.tables.specs.Visit.{slot_of, width_of, size_of, code_of, chosen, Yields, Ready, Standing}
use Rattle.tables.specs.declared.visit.Visit.{Visit}
use Rattle.tables.proofs.State.{tie_means}
use Rattle.tables.proofs.StateWalk.{tidy_shown, code_only, step_result}
use Rattle.tables.proofs.Choosing.{ready_less, chosen_standing}

-- slot s is that of one of the turns before j
abbrev pub Among : Visit → ℕ → ℕ → Type 0
Among v j s = (i : ℕ) × (i < j) × (slot_of v i ≡ s)

-- the turns before j are those of production p, each with the codes of its slot
pub record Planned (G : Grammar) (p : ℕ) (v : Visit) (Codes : ℕ → ℕ → Type 0) (j : ℕ) : Type 0 where
  pub ready : Ready v j
  pub width_is : v.width ≡ width G p v.target
  pub widths_are : (i : ℕ) → i < j → width_of v i ≡ width G p (slot_of v i)
  pub codes_are : (i c : ℕ) → i < j → Codes (slot_of v i) c ↔ ((r : ℕ) × (r < size_of v i) × (code_of v i r ≡ c))

-- ---- a slot tied and not dropped
module _ (G : Grammar) (p : ℕ) {s : List ℕ} (st : State s) (j : ℕ) (hw : width G p j ≤ max_settings) (w : Whole s j (width G p j)) where
  abbrev with_code : ℕ → List ℕ
  with_code c = joins s (code_pairs j (width G p j) c)

  kept_result : (c t : ℕ) (Codes : ℕ → ℕ → Type 0) (Open : ℕ → Type 0) (x : ℕ)
      → Result G p t Codes Open (Remaining (λ o. Unit {0}) (TiedTo G p j c (Shown s))) x ↔ Result G p t Codes Open (Shown (tidied (with_code c))) x
  kept_result c t Codes Open x = (
    result_map G p t Codes Codes Open Open (Remaining (λ o. Unit {0}) (TiedTo G p j c (Shown s))) (Shown (tidied (with_code c))) x (λ s h. h) (λ s h. h) (λ s c h m. m) to from,
    result_map G p t Codes Codes Open Open (Shown (tidied (with_code c))) (Remaining (λ o. Unit {0}) (TiedTo G p j c (Shown s))) x (λ s h. h) (λ s h. h) (λ s c h m. m) from to,
  )
    where
      now : State (with_code c)
      now = (tie_means st j (width G p j) c hw w).state

      to : (o q : Occ) → Remaining (λ o. Unit {0}) (TiedTo G p j c (Shown s)) o q → Eqv (Shown (tidied (with_code c))) o q
      to o q (u, u', k) = more (λ o q h. (tidy_shown now o q).1 h) ((tied_shown G p j c hw s w o q).1 k)

      from : (o q : Occ) → Shown (tidied (with_code c)) o q → Eqv (Remaining (λ o. Unit {0}) (TiedTo G p j c (Shown s))) o q
      from o q h = fwd done (tt, tt, (tied_shown G p j c hw s w o q).0 (fwd done ((tidy_shown now o q).0 h)))

-- ---- one turn
module _ (G : Grammar) (p : ℕ) (v : Visit) (Codes : ℕ → ℕ → Type 0) where
  planned_less : {j : ℕ} → Planned G p v Codes (suc j) → Planned G p v Codes j
  planned_less h = record {
    ready = ready_less h.ready;
    width_is = h.width_is;
    widths_are = λ i b. h.widths_are i (omega arith);
    codes_are = λ i c b. h.codes_are i c (omega arith);
  }

  module _ (j : ℕ) (h : Planned G p v Codes (suc j)) where
    among_more : (s : ℕ) → Among v (suc j) s ↔ ((s ≡ slot_of v j) ⊎ Among v j s)
    among_more s = (to, from)
      where
        to : Among v (suc j) s → (s ≡ slot_of v j) ⊎ Among v j s
        to (i, b, e) = by_order ((s ≡ slot_of v j) ⊎ Among v j s) i j (λ q. inl (sym e ∙ rw q)) (λ q. inr (i, q, e)) (λ q. absurd (omega arith))

        from : (s ≡ slot_of v j) ⊎ Among v j s → Among v (suc j) s
        from (inl e) = (j, omega arith, sym e)
        from (inr (i, b, e)) = (i, omega arith, e)

    once : Among v j (slot_of v j) → ⊥
    once (i, b, e) = h.ready.apart i j b (omega arith) e

    others : (s a : ℕ) → Among v j s → Outside (slot_of v j) (s, a)
    others s a (i, b, e) f = h.ready.apart i j b (omega arith) (e ∙ f)

    module _ {s : List ℕ} (st : Standing v (suc j) s) (x : ℕ) where
      abbrev Turned : (ℕ → List ℕ) → Type 0
      Turned after = (c : ℕ) × Codes (slot_of v j) c × Result G p v.target Codes (Among v j) (Shown (after c)) x

      opened : Result G p v.target Codes (Among v (suc j)) (Shown s) x ↔ Result G p v.target Codes (λ s. (s ≡ slot_of v j) ⊎ Among v j s) (Shown s) x
      opened = result_open G p v.target Codes (Among v (suc j)) (λ s. (s ≡ slot_of v j) ⊎ Among v j s) (Shown s) x among_more

      hw : width G p (slot_of v j) ≤ max_settings
      hw = rw (h.widths_are j (omega arith)) at (h.ready.widths j (omega arith))

      whole : Whole s (slot_of v j) (width G p (slot_of v j))
      whole = rw (h.widths_are j (omega arith)) at (st.ahead j (omega arith))

      -- the turn's slot is looked at: it is not dropped
      on_target : slot_of v j ≡ v.target → Result G p v.target Codes (Among v (suc j)) (Shown s) x
          ↔ Turned (λ c. tidied (joins s (code_pairs (slot_of v j) (width G p (slot_of v j)) c)))
      on_target e =
          let m = result_more G p v.target Codes (Among v j) (Shown s) (slot_of v j) once (λ o. Unit {0}) (λ a. tt) (λ s a u. tt) x in
          let k = kept_result G p st.state (slot_of v j) hw whole in (
            λ r. let (c, u, q) = m.0 (opened.0 r) in (c, u, (k c v.target Codes (Among v j) x).0 q),
            λ (c, u, q). opened.1 (m.1 (c, u, (k c v.target Codes (Among v j) x).1 q)),
          )

      -- it is another, and dropped
      off_target : (slot_of v j ≡ v.target → ⊥) → Result G p v.target Codes (Among v (suc j)) (Shown s) x
          ↔ Turned (λ c. tidied (dropped (slot_of v j) (joins s (code_pairs (slot_of v j) (width G p (slot_of v j)) c))))
      off_target n =
          let m = result_more G p v.target Codes (Among v j) (Shown s) (slot_of v j) once (Outside (slot_of v j)) (λ a e. n (sym e)) others x in
          let k = step_result G p st.state (slot_of v j) (h.ready.slots j (omega arith)) hw whole in (
            λ r. let (c, u, q) = m.0 (opened.0 r) in (c, u, (k c v.target Codes (Among v j) x).0 q),
            λ (c, u, q). opened.1 (m.1 (c, u, (k c v.target Codes (Among v j) x).1 q)),
          )

      -- THEOREM: turn j ties one of its slot's codes; the turns before it are left
      turn_result : Result G p v.target Codes (Among v (suc j)) (Shown s) x ↔ Turned (λ c. chosen v j c s)
      unfolding chosen
      turn_result = rw (h.widths_are j (omega arith)) (go (eqb (slot_of v j) v.target) refl)
        where
          go : (b : Bool) → eqb (slot_of v j) v.target ≡ b → Result G p v.target Codes (Among v (suc j)) (Shown s) x
              ↔ Turned (λ c. tidied (pick b (joins s (code_pairs (slot_of v j) (width G p (slot_of v j)) c))
              (dropped (slot_of v j) (joins s (code_pairs (slot_of v j) (width G p (slot_of v j)) c)))))
          go true e = on_target (eqb-true (slot_of v j) v.target e)
          go false e = off_target (eqb-false (slot_of v j) v.target e)

  -- THEOREM: what comes of a state by the turns before j is what is gathered over their slots
  pub yields_result : (j : ℕ) → Planned G p v Codes j → {s : List ℕ} → Standing v j s → (x : ℕ)
      → Yields v j s x ↔ Result G p v.target Codes (Among v j) (Shown s) x
  unfolding Yields
  yields_result zero h {s} st x =
      let a = result_none G p v.target Codes (Among v 0) (Shown s) x (λ s (i, b, e). omega arith) in
      let w = h.width_is in
      let b = code_only (width G p v.target) st.state v.target h.ready.target (rw w at h.ready.width) (rw w at st.looked_at) x in
      rw w (λ e. a.1 (b.1 e), λ r. b.0 (a.0 r))
  yields_result (suc j) h {s} st x =
      let t = turn_result j h st x in
      let ih : (c : ℕ) → Yields v j (chosen v j c s) x ↔ Result G p v.target Codes (Among v j) (Shown (chosen v j c s)) x
      = λ c. yields_result j (planned_less h) (chosen_standing h.ready st c) x in (
        λ (i, b, y). t.1 (code_of v j i, (h.codes_are j (code_of v j i) (omega arith)).1 (i, b, refl), (ih (code_of v j i)).0 y),
        λ r.
            let (c, m, q) = t.0 r in
            let (i, b, e) = (h.codes_are j c (omega arith)).0 m in
            (i, b, subst (λ c. Yields v j (chosen v j c s) x) (sym e) ((ih c).1 q)),
      )
