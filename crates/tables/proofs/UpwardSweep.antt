-- The steps of the upward pass, and the pass.
use mathlib.Core.Path.{◌≡◌, ap, ◌∙◌}
use mathlib.Core.Logic.{inl, inr}
use mathlib.Core.Bool.{Bool}
use mathlib.Core.List.{List, [], ◌∷◌}
use Prim.Native.Nat.{ℕ, suc, ◌*◌, ◌≤◌, ◌<◌}
use native.Mathlib.Omega.{arith}
use lib.ListN.{length, get_or}
use Rattle.std.specs.Prelude.{Result}
use Rattle.std.proofs.lemmas.Result.{on_ok_weaker}
use Rattle.chains.specs.Limits.{max_members}
use Rattle.chains.specs.Grouping.{Members}
use Rattle.chains.specs.Plausible.{Plausible}
use Rattle.chains.specs.Steps.{StepUp}
use Rattle.chains.proofs.Plausible.{plausible_sound, plausible_complete}
use Rattle.book.specs.Format.{arity_at, entry, kinds, prods, grammar}
use Rattle.book.specs.Reading.{kid_at}
use Rattle.bookcheck.proofs.Accepted.{arity_read, kid_read}
use Rattle.zeros.specs.Zeros.{cleared}
use Rattle.members.specs.Sets.{Has}
use Rattle.members.specs.declared.Full.{Full}
use Rattle.tables.specs.Memory.{Fine, Turned}
use Rattle.tables.specs.Shape.{Opened}
use Rattle.tables.specs.Visit.{Gathered, OldOr}
use Rattle.tables.specs.Sweep.{Lawful, Served, Closed, total, Swept, Outcome}
use Rattle.tables.specs.Upward.{up_steps}
use Rattle.tables.proofs.Memory.{turned_map}
use Rattle.tables.proofs.Holds.{fine_holds}
use Rattle.tables.proofs.Gathering.{turned_widen}
use Rattle.tables.proofs.Sweeping.{total_agree, since_now}

-- codes of some kinds, in other sets that have them
pub members_change : (A B : ℕ → ℕ → Type 0) (ks cs : List ℕ) → ((i x : ℕ) → i < length ks → A (get_or ks i 0) x → B (get_or ks i 0) x) → Members A ks cs → Members B ks cs
members_change A B [] [] h m = tt
members_change A B [] (c ∷ cs) h m = absurd m
members_change A B (k ∷ ks) [] h m = absurd m
members_change A B (k ∷ ks) (c ∷ cs) h m = (h 0 c (omega arith) m.0, members_change A B ks cs (λ i x l. h (suc i) x (omega arith)) m.1)

module _ {b places : List ℕ} (o : Opened b places) where
  -- the upward step hangs on the children's kinds alone
  pub up_lawful : Lawful (up_steps b places)
  up_lawful = record {
    leans = o;
    few = o.book.few_prods;
    into_in = λ p j l h. o.book.lawful.left_in p l;
    watch_in = λ p i l h. o.book.lawful.kids_in p i l h;
    local = λ p j l h s c s' c' same x (cs, m, says). (cs, members_change (Has s c) (Has s' c') ((grammar b).kids p) cs same m, says);
  }

  module _ (p : ℕ) (l : p < prods b) where
    -- a visit serves the step
    pub up_served : {s c s' c' : List ℕ} (r : Result Bool Full) → Fine (kinds b) (Plausible (grammar b)) s c
        → Turned (kinds b) (OldOr s c ((grammar b).left p) (StepUp (grammar b) (Has s c) p)) (Gathered ((grammar b).left p) (StepUp (grammar b) (Has s c) p) s' c') s c s' c' r
        → Turned (kinds b) (Plausible (grammar b)) (Served (up_steps b places) p s c s' c') s c s' c' r
    up_served {s} {c} r f u = turned_map r (λ g j h. since_now (λ A. StepUp (grammar b) A p) f u.kept g) (turned_widen sound r u)
      where
        sound : (k x : ℕ) → k < kinds b → OldOr s c ((grammar b).left p) (StepUp (grammar b) (Has s c) p) k x → Plausible (grammar b) k x
        sound k x h (inl y) = f.only k x h y
        sound k x h (inr (e, (cs, m, says))) =
            rw e (plausible_sound (grammar b) o.book.lawful p x l
            (cs, members_change (Has s c) (Plausible (grammar b)) ((grammar b).kids p) cs (λ i y q. f.only (get_or ((grammar b).kids p) i 0) y (o.book.lawful.kids_in p i l q)) m, says))

    -- ---- what is watched
    module _ {at : ℕ} (e : at ≡ entry b p) where
      pub kid_counted : (c : List ℕ) → kinds b ≤ length c → (i : ℕ) → i < arity_at b at → kid_at b at i < length c
      kid_counted c h i k =
          let z : i < length ((grammar b).kids p) = omega (arith, rw e at k, arity_read o.book p l) in
          let y = o.book.lawful.kids_in p i l z in
          rw (e, kid_read o.book p l i z) (omega arith)

      pub up_watched : (c : List ℕ) {sum : ℕ} → sum ≡ suc (total c (kid_at b at) (arity_at b at))
          → sum ≡ suc (total c (λ i. get_or ((grammar b).kids p) i 0) (length ((grammar b).kids p)))
      up_watched c h =
          rw e at h ∙ ap suc (ap (total c (kid_at b (entry b p))) (arity_read o.book p l)
          ∙ total_agree c (kid_at b (entry b p)) (λ i. get_or ((grammar b).kids p) i 0) (length ((grammar b).kids p)) (λ i h. kid_read o.book p l i h))

-- ---- the pass
module _ {b places : List ℕ} (o : Opened b places) {s₀ c₀ : List ℕ} (there : kinds b * max_members ≤ length s₀) (here : kinds b ≤ length c₀) where
  -- THEOREM: sweeps from cleared sets come to exactly the plausible groupings, or to a 65th
  pub up_outcome : {s c : List ℕ} {r : Result (Unit {0}) Full}
      → Swept (kinds b) (Plausible (grammar b)) (Closed (up_steps b places) s c) (cleared (kinds b * max_members) s₀) (cleared (kinds b) c₀) s c r
      → Outcome (kinds b) (Plausible (grammar b)) s₀ c₀ s c r
  up_outcome {s} {c} {r} w = record {
    holds = on_ok_weaker r (λ closed. fine_holds there here w.kept w.fine (λ k x h. plausible_complete (grammar b) o.book.lawful (Has s c) (λ p x l. closed p 0 x l (omega arith)) k x)) w.closed;
    over = w.over;
  }
