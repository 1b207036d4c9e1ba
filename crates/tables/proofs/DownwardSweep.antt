-- A production's turn in a sweep of the downward pass, the sweep, and the pass.
use mathlib.Core.Path.{◌≡◌}
use mathlib.Core.Logic.{inl, inr}
use mathlib.Core.Bool.{Bool}
use mathlib.Core.List.{List}
use Prim.Native.Nat.{ℕ, suc, ◌+◌, ◌*◌, ◌≤◌, ◌<◌}
use native.Mathlib.Omega.{arith}
use lib.ListN.{length, get_or}
use Rattle.std.specs.Prelude.{Result}
use Rattle.std.proofs.lemmas.Result.{on_ok_weaker}
use Rattle.chains.specs.Limits.{max_members}
use Rattle.chains.specs.Plausible.{Plausible}
use Rattle.chains.specs.Feasible.{Feasible}
use Rattle.chains.specs.Steps.{StepDown}
use Rattle.chains.proofs.Feasible.{ClosedDown, feasible_sound, feasible_complete}
use Rattle.book.specs.Format.{kinds, prods, start, grammar}
use Rattle.members.specs.Sets.{Has}
use Rattle.tables.specs.Memory.{Fine, Turned}
use Rattle.zeros.specs.Zeros.{cleared}
use Rattle.tables.specs.Visit.{Gathered, OldOr}
use Rattle.tables.specs.Shape.{Opened}
use Rattle.tables.specs.Sweep.{Lawful, Since, total, Closed, Swept, Exact, Outcome}
use Rattle.tables.specs.Downward.{down_steps, Seeded}
use Rattle.members.specs.declared.Full.{Full}
use Rattle.tables.proofs.Memory.{kept_trans, turned_map}
use Rattle.tables.proofs.Holds.{fine_holds}
use Rattle.tables.proofs.Gathering.{turned_widen}
use Rattle.tables.proofs.Sweeping.{total_none, total_more, since_now}
use Rattle.tables.proofs.UpwardSweep.{members_change}
use Rattle.tables.proofs.Seeding.{seeded_has, seeded_fine, seeded_kept}

module _ {b places s c : List ℕ} (o : Opened b places) (f : Fine (kinds b) (Plausible (grammar b)) s c) where
  -- the downward step hangs on the left kind alone: the children's codes are the plausible ones throughout
  pub down_lawful : Lawful (down_steps b places s c)
  down_lawful = record {
    leans = (o, f);
    few = o.book.few_prods;
    into_in = λ p j l h. o.book.lawful.kids_in p j l h;
    watch_in = λ p i l h. o.book.lawful.left_in p l;
    local = λ p j l h d t d' t' same x (u, cs, m, n, says). (u, cs, same 0 u (omega arith) m, n, says);
  }

  -- what is watched
  pub down_watched : (p : ℕ) (t : List ℕ) → get_or t ((grammar b).left p) 0 + 1 ≡ suc (total t (λ i. (grammar b).left p) 1)
  down_watched p t = omega (arith, total_more t (λ i. (grammar b).left p) 0, total_none t (λ i. (grammar b).left p))

  -- a visit for child j serves its step
  pub down_served : (p j : ℕ) → p < prods b → j < length ((grammar b).kids p) → {d t d' t' : List ℕ} (r : Result Bool Full) → Fine (kinds b) (Feasible (grammar b)) d t
      → Turned (kinds b) (OldOr d t (get_or ((grammar b).kids p) j 0) (StepDown (grammar b) (Has d t) (Has s c) p (suc j)))
      (Gathered (get_or ((grammar b).kids p) j 0) (StepDown (grammar b) (Has d t) (Has s c) p (suc j)) d' t') d t d' t' r
      → Turned (kinds b) (Feasible (grammar b)) (Since (kinds b) (λ A. StepDown (grammar b) A (Has s c) p (suc j)) (get_or ((grammar b).kids p) j 0) d t d' t') d t d' t' r
  down_served p j l h {d} {t} r g u = turned_map r (λ y. since_now (λ A. StepDown (grammar b) A (Has s c) p (suc j)) g u.kept y) (turned_widen sound r u)
    where
      sound : (k x : ℕ) → k < kinds b → OldOr d t (get_or ((grammar b).kids p) j 0) (StepDown (grammar b) (Has d t) (Has s c) p (suc j)) k x → Feasible (grammar b) k x
      sound k x low (inl y) = g.only k x low y
      sound k x low (inr (e, (u, cs, m, n, says))) =
          rw e ((feasible_sound (grammar b)).below p j x l h (
            u,
            cs,
            g.only ((grammar b).left p) u (o.book.lawful.left_in p l) m,
            members_change (Has s c) (Plausible (grammar b)) ((grammar b).kids p) cs (λ i y q. f.only (get_or ((grammar b).kids p) i 0) y (o.book.lawful.kids_in p i l q)) n,
            says,
          ))

-- ---- the pass
module _ {b places : List ℕ} (z : Opened b places) (f₀ d₀ : List ℕ) {s c f d : List ℕ} (there : kinds b * max_members ≤ length f₀) (here : kinds b ≤ length d₀)
    (e : Exact (kinds b) (Plausible (grammar b)) s c) (o : Seeded (start b) s c (cleared (kinds b * max_members) f₀) (cleared (kinds b) d₀) f d) where
  pub down_begun : Fine (kinds b) (Feasible (grammar b)) f d
  down_begun = seeded_fine f₀ d₀ there here z.book.lawful.start_in e.fine o (λ x h. (feasible_sound (grammar b)).at_start x h)

  -- THEOREM: sweeps from the start's plausible groupings come to exactly the feasible ones, or to a 65th
  pub down_outcome : {f' d' : List ℕ} {r : Result (Unit {0}) Full} → Swept (kinds b) (Feasible (grammar b)) (Closed (down_steps b places s c) f' d') f d f' d' r
      → Outcome (kinds b) (Feasible (grammar b)) f₀ d₀ f' d' r
  down_outcome {f'} {d'} {r} w = record {
    holds = on_ok_weaker r (λ q. fine_holds there here (kept_trans (seeded_kept f₀ d₀ there here z.book.lawful.start_in e.fine o) w.kept) w.fine
        (λ k x h. feasible_complete (grammar b) (Has f' d') (closed q) k x)) w.closed;
    over = w.over;
  }
    where
      closed : Closed (down_steps b places s c) f' d' → ClosedDown (grammar b) (Plausible (grammar b)) (Has f' d')
      closed q = record {
        at_start = λ x h. w.kept.stays (start b) x z.book.lawful.start_in (seeded_has f₀ d₀ there here z.book.lawful.start_in e.fine o x (e.whole (start b) x z.book.lawful.start_in h));
        below = λ p j x l h (u, cs, m, n, says). q p j x l h
            (u, cs, m, members_change (Plausible (grammar b)) (Has s c) ((grammar b).kids p) cs (λ i y k. e.whole (get_or ((grammar b).kids p) i 0) y (z.book.lawful.kids_in p i l k)) n, says);
      }
