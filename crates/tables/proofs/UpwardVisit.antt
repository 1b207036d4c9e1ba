-- A visit of the upward pass: what it needs, and what it puts in.
use mathlib.Core.Path.{sym, ◌≡◌, refl, subst}
use mathlib.Core.Logic.{◌↔◌}
use mathlib.Core.List.{List}
use Prim.Native.Nat.{ℕ, zero, suc, ◌≤◌, ◌<◌}
use native.Mathlib.Omega.{arith}
use lib.ListN.{length, get_or}
use Rattle.std.specs.Prelude.{Bool, Result}
use Rattle.chains.specs.Grammar.{slots}
use Rattle.chains.specs.Gather.{UpTo, CodesOf}
use Rattle.chains.specs.Steps.{StepUp}
use Rattle.chains.proofs.Gathered.{gathered_up}
use Rattle.book.specs.Format.{arity_at, entry, kinds, prods, grammar}
use Rattle.book.specs.Reading.{kind_in}
use Rattle.bookcheck.specs.Accepted.{Accepted}
use Rattle.bookcheck.proofs.Accepted.{arity_read, kind_in_read}
use Rattle.members.specs.Sets.{Has, Placed}
use Rattle.tables.specs.Memory.{Fine, Turned}
use Rattle.tables.specs.State.{based}
use Rattle.tables.specs.Visit.{Yields, Gathered, OldOr, Gathers, Opening, Prepared}
use Rattle.members.specs.declared.Full.{Full}
use Rattle.tables.specs.declared.visit.Visit.{Visit}
use Rattle.tables.proofs.Memory.{fine_placed}
use Rattle.tables.proofs.Gathering.{gathers_map}
use Rattle.tables.proofs.StateBase.{few_kids}
use Rattle.tables.proofs.Planning.{plan_kind, plan_prepared, plan_result}

module _ {b : List ℕ} (a : Accepted b) (p : ℕ) (l : p < prods b) where
  -- a production's slots have kinds that there are
  pub kind_known : (s : ℕ) → s < length (slots (grammar b) p) → get_or (slots (grammar b) p) s 0 < kinds b
  kind_known zero h = a.lawful.left_in p l
  kind_known (suc j) h = a.lawful.kids_in p j l (omega arith)

  pub slot_placed : {P : ℕ → ℕ → Type 0} {s c : List ℕ} → Fine (kinds b) P s c → (i : ℕ) → i ≤ arity_at b (entry b p) → Placed s c (kind_in b (entry b p) i)
  slot_placed f i h =
      let k : i < length (slots (grammar b) p) = omega (arith, arity_read a p l) in
      rw (kind_in_read a p l i k) (fine_placed f _ (kind_known i k))

  module _ {s c : List ℕ} (f : Fine (kinds b) (Has s c) s c) {v : Visit} (h : Opening b (entry b p) 0 suc (λ i. s) (λ i. c) v (arity_at b (entry b p))) where
    inside : (i : ℕ) → i < arity_at b (entry b p) → suc i < length (slots (grammar b) p)
    inside i k = omega (arith, arity_read a p l)

    kind_is : v.kind ≡ (grammar b).left p
    kind_is = plan_kind a p l h (omega arith) (omega (arith, few_kids a p l)) inside (λ i k q r e. omega arith) (λ i k. fine_placed f _ (kind_known (suc i) (inside i k)))

    pub up_prepared : Prepared b (entry b p) v s c
    up_prepared =
        plan_prepared a p l h (omega arith) (omega (arith, few_kids a p l)) inside (λ i k q r e. omega arith) (λ i k. fine_placed f _ (kind_known (suc i) (inside i k)))
        (record { kinds = kinds b; below = rw kind_is (a.lawful.left_in p l); fine = f })

    opened : (t : ℕ) → ((i : ℕ) × (i < arity_at b (entry b p)) × (suc i ≡ t)) ↔ UpTo (length ((grammar b).kids p)) t
    opened t = (λ (i, k, e). omega (arith, arity_read a p l), back t)
      where
        back : (t : ℕ) → UpTo (length ((grammar b).kids p)) t → (i : ℕ) × (i < arity_at b (entry b p)) × (suc i ≡ t)
        back zero (h, k) = absurd (omega arith)
        back (suc i) (h, k) = (i, omega (arith, arity_read a p l), refl)

    yields_up : (x : ℕ) → Yields v v.opened (based b (entry b p)) x ↔ StepUp (grammar b) (Has s c) p x
    yields_up x =
        let y = plan_result a p l h (omega arith) (omega (arith, few_kids a p l)) inside (λ i k q r e. omega arith) (λ i k. fine_placed f _ (kind_known (suc i) (inside i k)))
        (CodesOf (grammar b) (Has s c) (Has s c) p) (λ i c k. (λ m. m, λ m. m)) (UpTo (length ((grammar b).kids p))) opened x in
        let g = gathered_up (grammar b) (Has s c) (Has s c) p x in
        subst (λ k. Yields v k (based b (entry b p)) x ↔ StepUp (grammar b) (Has s c) p x) (sym h.opened) (λ m. g.0 (y.0 m), λ m. y.1 (g.1 m))

    -- THEOREM: a visit puts in what the upward step gives
    pub up_gathers : {s' c' : List ℕ} {r : Result Bool Full} → Gathers v.kind (Yields v v.opened (based b (entry b p))) s c s' c' r
        → Turned (kinds b) (OldOr s c ((grammar b).left p) (StepUp (grammar b) (Has s c) p)) (Gathered ((grammar b).left p) (StepUp (grammar b) (Has s c) p) s' c') s c s' c' r
    up_gathers {s'} {c'} {r} g =
        subst (λ k. Gathers k (StepUp (grammar b) (Has s c) p) s c s' c' r) kind_is (gathers_map yields_up g) (kinds b) (a.lawful.left_in p l) f
