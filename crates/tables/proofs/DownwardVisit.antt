-- A visit of the downward pass for one child: the order of its turns, what it needs, and what it puts in.
use mathlib.Core.Path.{◌≡◌, refl, sym, ◌∙◌, subst}
use mathlib.Core.Logic.{inl, inr, ◌↔◌}
use mathlib.Core.Bool.{Bool, true, false}
use mathlib.Core.List.{List}
use Prim.Native.Nat.{ℕ, zero, suc, ◌-◌, ◌≤◌, ◌<◌}
use native.Mathlib.Omega.{arith}
use native.Mathlib.Decide.{ℕ_discrete, dec_lt}
use borrow.Author.Tests.{eq-eqb, ne_eqb, lt-ltb, le-ltb}
use lib.Dec.{eqb}
use lib.ListN.{length, get_or}
use Rattle.std.specs.Prelude.{Result}
use Rattle.lists.specs.Pick.{pick}
use Rattle.lists.proofs.Order.{by_order}
use Rattle.chains.specs.Grammar.{slots}
use Rattle.chains.specs.Gather.{Towards, CodesOf}
use Rattle.chains.specs.Steps.{StepDown}
use Rattle.chains.proofs.Gathered.{gathered_down}
use Rattle.book.specs.Format.{arity_at, entry, kinds, prods, grammar}
use Rattle.bookcheck.specs.Accepted.{Accepted}
use Rattle.bookcheck.proofs.Accepted.{arity_read}
use Rattle.members.specs.Sets.{Has, Placed}
use Rattle.tables.specs.Memory.{Fine, Turned}
use Rattle.tables.specs.State.{based}
use Rattle.tables.specs.Visit.{max_turns, Yields, Gathered, OldOr, Gathers, Opening, Prepared}
use Rattle.tables.specs.Downward.{slot_down, given}
use Rattle.members.specs.declared.Full.{Full}
use Rattle.tables.specs.declared.visit.Visit.{Visit}
use Rattle.tables.proofs.Memory.{fine_placed}
use Rattle.tables.proofs.Gathering.{gathers_map}
use Rattle.tables.proofs.StateBase.{few_kids}
use Rattle.tables.proofs.Planning.{plan_kind, plan_prepared, plan_result}
use Rattle.tables.proofs.UpwardVisit.{kind_known}

-- ---- the order of the turns
module _ (t j : ℕ) where
  pub slot_first : j ≡ 0 → slot_down t j ≡ t
  slot_first e = rw (eq-eqb j 0 e)

  pub slot_later : (j ≡ 0 → ⊥) → t < j → slot_down t j ≡ j
  slot_later n h = rw (ne_eqb j 0 n, lt-ltb t j h)

  pub slot_sooner : (j ≡ 0 → ⊥) → j ≤ t → slot_down t j ≡ j - 1
  slot_sooner n h = rw (ne_eqb j 0 n, le-ltb t j h)

  -- what holds in each case holds
  slot_cases : (P : ℕ → Type 0) → (j ≡ 0 → P t) → ((j ≡ 0 → ⊥) → t < j → P j) → ((j ≡ 0 → ⊥) → j ≤ t → P (j - 1)) → P (slot_down t j)
  slot_cases P first later sooner = go (ℕ_discrete j 0) (dec_lt t j)
    where
      go : Dec (j ≡ 0) → Dec (t < j) → P (slot_down t j)
      go (yes e) d = subst P (sym (slot_first e)) (first e)
      go (no n) (yes h) = subst P (sym (slot_later n h)) (later n h)
      go (no n) (no h) = let k : j ≤ t = omega arith in subst P (sym (slot_sooner n k)) (sooner n k)

  pub slot_within : (k : ℕ) → t ≤ k → j ≤ k → slot_down t j ≤ k
  slot_within k ht hj = slot_cases (λ s. s ≤ k) (λ e. ht) (λ n h. hj) (λ n h. omega arith)

-- no slot has two turns
slot_apart : (t i j : ℕ) → i < j → slot_down t i ≡ slot_down t j → ⊥
slot_apart t i j h =
    slot_cases t j (λ s. slot_down t i ≡ s → ⊥) (λ e. absurd (omega arith))
    (λ n k. slot_cases t i (λ r. r ≡ j → ⊥) (λ e q. omega arith) (λ m q r. omega arith) (λ m q r. omega arith))
    (λ n k. slot_cases t i (λ r. r ≡ j - 1 → ⊥) (λ e q. omega arith) (λ m q r. omega arith) (λ m q r. omega arith))

-- every slot has one
slot_onto : (t k s : ℕ) → t ≤ k → s ≤ k → (i : ℕ) × (i < suc k) × (slot_down t i ≡ s)
slot_onto t k s ht hs =
    by_order ((i : ℕ) × (i < suc k) × (slot_down t i ≡ s)) s t (λ e. (0, omega arith, slot_first t 0 refl ∙ sym e))
    (λ h. (suc s, omega arith, slot_sooner t (suc s) (λ e. omega arith) h ∙ omega arith)) (λ h. (s, omega arith, slot_later t s (λ e. omega arith) h))

-- ---- the codes of a slot
pub given_left : (f s : List ℕ) (slot : ℕ) → slot ≡ 0 → given f s slot ≡ f
given_left f s slot e = rw (eq-eqb slot 0 e)

pub given_child : (f s : List ℕ) (slot : ℕ) → (slot ≡ 0 → ⊥) → given f s slot ≡ s
given_child f s slot n = rw (ne_eqb slot 0 n)

pub given_placed : {f d s c : List ℕ} (slot : ℕ) {k : ℕ} → Placed f d k → Placed s c k → Placed (given f s slot) (given d c slot) k
given_placed {f} {d} {s} {c} slot {k} x y = go (eqb slot 0)
  where
    go : (b : Bool) → Placed (pick b f s) (pick b d c) k
    go true = x
    go false = y

module _ {b : List ℕ} (a : Accepted b) (p : ℕ) (l : p < prods b) where
  codes_given : (f d s c : List ℕ) (slot x : ℕ) → CodesOf (grammar b) (Has f d) (Has s c) p slot x ↔ Has (given f s slot) (given d c slot) (get_or (slots (grammar b) p) slot 0) x
  codes_given f d s c zero x = rw (given_left f s 0 refl, given_left d c 0 refl) (λ m. m, λ m. m)
  codes_given f d s c (suc j) x = rw (given_child f s (suc j) (λ e. omega arith), given_child d c (suc j) (λ e. omega arith)) (λ m. m, λ m. m)

  module _ {f d s c : List ℕ} {P : ℕ → ℕ → Type 0} (g : Fine (kinds b) (Has f d) f d) (h : Fine (kinds b) P s c) (j : ℕ) (hj : j < length ((grammar b).kids p)) {v : Visit}
      (o : Opening b (entry b p) (suc j) (slot_down (suc j)) (λ i. given f s (slot_down (suc j) i)) (λ i. given d c (slot_down (suc j) i)) v (suc (arity_at b (entry b p)))) where
    inside : (i : ℕ) → i < suc (arity_at b (entry b p)) → slot_down (suc j) i < length (slots (grammar b) p)
    inside i k = let z = slot_within (suc j) i (length ((grammar b).kids p)) hj (omega (arith, arity_read a p l)) in omega arith

    apart : (i k : ℕ) → i < k → k < suc (arity_at b (entry b p)) → slot_down (suc j) i ≡ slot_down (suc j) k → ⊥
    apart i k q r = slot_apart (suc j) i k q

    placed : (i : ℕ) → i < suc (arity_at b (entry b p))
        → Placed (given f s (slot_down (suc j) i)) (given d c (slot_down (suc j) i)) (get_or (slots (grammar b) p) (slot_down (suc j) i) 0)
    placed i k =
        let z = kind_known a p l (slot_down (suc j) i) (inside i k) in
        given_placed (slot_down (suc j) i) (fine_placed g _ z) (fine_placed h _ z)

    target : suc j < length (slots (grammar b) p)
    target = omega arith

    few : suc (arity_at b (entry b p)) ≤ max_turns
    few = omega (arith, few_kids a p l)

    kind_is : v.kind ≡ get_or ((grammar b).kids p) j 0
    kind_is = plan_kind a p l o target few inside apart placed

    pub down_prepared : Prepared b (entry b p) v f d
    down_prepared = plan_prepared a p l o target few inside apart placed (record { kinds = kinds b; below = rw kind_is (a.lawful.kids_in p j l hj); fine = g })

    opened : (t : ℕ) → ((i : ℕ) × (i < suc (arity_at b (entry b p))) × (slot_down (suc j) i ≡ t)) ↔ Towards (suc j) (length (slots (grammar b) p)) t
    opened t = (λ (i, k, e). inl (rw e at (inside i k)), back)
      where
        back : Towards (suc j) (length (slots (grammar b) p)) t → (i : ℕ) × (i < suc (arity_at b (entry b p))) × (slot_down (suc j) i ≡ t)
        back (inl q) = let (i, k, e) = slot_onto (suc j) (length ((grammar b).kids p)) t hj (omega arith) in (i, omega (arith, arity_read a p l), e)
        back (inr q) = (0, omega arith, slot_first (suc j) 0 refl ∙ sym q)

    yields_down : (x : ℕ) → Yields v v.opened (based b (entry b p)) x ↔ StepDown (grammar b) (Has f d) (Has s c) p (suc j) x
    yields_down x =
        let y = plan_result a p l o target few inside apart placed (CodesOf (grammar b) (Has f d) (Has s c) p) (λ i x k. codes_given f d s c (slot_down (suc j) i) x)
        (Towards (suc j) (length (slots (grammar b) p))) opened x in
        let e = gathered_down (grammar b) (Has f d) (Has s c) p (suc j) target x in
        subst (λ k. Yields v k (based b (entry b p)) x ↔ StepDown (grammar b) (Has f d) (Has s c) p (suc j) x) (sym o.opened) (λ m. e.0 (y.0 m), λ m. y.1 (e.1 m))

    -- THEOREM: a visit puts in what the downward step gives on the child's slot
    pub down_gathers : {f' d' : List ℕ} {r : Result Bool Full} → Gathers v.kind (Yields v v.opened (based b (entry b p))) f d f' d' r
        → Turned (kinds b) (OldOr f d (get_or ((grammar b).kids p) j 0) (StepDown (grammar b) (Has f d) (Has s c) p (suc j)))
        (Gathered (get_or ((grammar b).kids p) j 0) (StepDown (grammar b) (Has f d) (Has s c) p (suc j)) f' d') f d f' d' r
    down_gathers {f'} {d'} {r} m =
        subst (λ k. Gathers k (StepDown (grammar b) (Has f d) (Has s c) p (suc j)) f d f' d' r) kind_is (gathers_map yields_down m) (kinds b) (a.lawful.kids_in p j l hj) g
