-- The first holder of a label: what one occurrence more changes, in the list and in the array by label.
use mathlib.Core.Path.{◌≡◌, refl, sym, ap, ◌∙◌}
use mathlib.Core.Bool.{Bool, true, false}
use mathlib.Core.List.{List, [], ◌∷◌, ◌++◌}
use Prim.Native.Nat.{ℕ, ◌≤◌, ◌<◌}
use native.Mathlib.Decide.{ℕ_discrete}
use native.Mathlib.Omega.{arith}
use lib.Dec.{eqb}
use lib.ListN.{length, get_or, set, length-set}
use Rattle.std.specs.Prelude.{Some, None}
use lib.Seq.{get_or-set_same, get_or-set_other}
use Rattle.std.proofs.lemmas.List.{set-get_or}
use borrow.Author.Tests.{eq-eqb, ne_eqb}
use Rattle.lists.specs.Pick.{pick}
use Rattle.numbering.specs.Walk.{Held, holder, holds}
use Rattle.numbering.specs.Giving.{labels_known, nobody, stamp_at, number_at, Holding, HeldOne}
use Rattle.numbering.specs.declared.numbers.Holder.{Holder}

-- ── in the list ──
pub holder_append : (y : ℕ) (hs ks : List Held) (n : ℕ) → holder y (hs ++ ks) n ≡ holder y hs (holder y ks n)
holder_append y [] ks n = refl
holder_append y (h ∷ hs) ks n = ap (λ t. pick (eqb h.0 y) h.1 t) (holder_append y hs ks n)

holds_append : (y : ℕ) (hs ks : List Held) → holds y (hs ++ ks) ≡ pick (holds y hs) true (holds y ks)
holds_append y [] ks = refl
holds_append y (h ∷ hs) ks = ap (λ t. pick (eqb h.0 y) true t) (holds_append y hs ks) ∙ nested (eqb h.0 y) (holds y hs) (holds y ks)
  where
    nested : (a b c : Bool) → pick a true (pick b true c) ≡ pick (pick a true b) true c
    nested true b c = refl
    nested false b c = refl

-- where none holds y, the number is the one that is offered; where one does, it matters not which is offered
pub holder_none : (y : ℕ) (hs : List Held) (n : ℕ) → holds y hs ≡ false → holder y hs n ≡ n
holder_none y [] n e = refl
holder_none y (h ∷ hs) n e = go (eqb h.0 y) e (holder_none y hs n)
  where
    go : (t : Bool) → pick t true (holds y hs) ≡ false → (holds y hs ≡ false → holder y hs n ≡ n) → pick t h.1 (holder y hs n) ≡ n
    go true e f = let z : ◌≡◌ {A = ℕ} 0 1 = cc in absurd (omega arith)
    go false e f = f e

pub holder_some : (y : ℕ) (hs : List Held) (n m : ℕ) → holds y hs ≡ true → holder y hs n ≡ holder y hs m
holder_some y [] n m e = let z : ◌≡◌ {A = ℕ} 0 1 = cc in absurd (omega arith)
holder_some y (h ∷ hs) n m e = go (eqb h.0 y) e (holder_some y hs n m)
  where
    go : (t : Bool) → pick t true (holds y hs) ≡ true → (holds y hs ≡ true → holder y hs n ≡ holder y hs m) → pick t h.1 (holder y hs n) ≡ pick t h.1 (holder y hs m)
    go true e f = refl
    go false e f = f e

-- one occurrence more, with the label x
module _ (hs : List Held) (x n : ℕ) where
  holds_same : (y : ℕ) → y ≡ x → holds y (hs ++ (x, n) ∷ []) ≡ true
  holds_same y e = holds_append y hs ((x, n) ∷ []) ∙ rw (eq-eqb x y (sym e)) (either (holds y hs))
    where
      either : (b : Bool) → pick b true true ≡ true
      either true = refl
      either false = refl

  holds_other : (y : ℕ) → (y ≡ x → ⊥) → holds y (hs ++ (x, n) ∷ []) ≡ holds y hs
  holds_other y e = holds_append y hs ((x, n) ∷ []) ∙ rw (ne_eqb x y (λ s. e (sym s))) (itself (holds y hs))
    where
      itself : (b : Bool) → pick b true false ≡ b
      itself true = refl
      itself false = refl

  holder_same : (y m : ℕ) → y ≡ x → holder y (hs ++ (x, n) ∷ []) m ≡ holder y hs n
  holder_same y m e = holder_append y hs ((x, n) ∷ []) m ∙ rw (eq-eqb x y (sym e))

  holder_other : (y m : ℕ) → (y ≡ x → ⊥) → holder y (hs ++ (x, n) ∷ []) m ≡ holder y hs m
  holder_other y m e = holder_append y hs ((x, n) ∷ []) m ∙ rw (ne_eqb x y (λ s. e (sym s)))

-- the number that it takes may be put for the one that it was offered
taken_same : (hs : List Held) (x n y : ℕ) → Dec (y ≡ x)
    → (holds y (hs ++ (x, holder x hs n) ∷ []) ≡ holds y (hs ++ (x, n) ∷ [])) × ((m : ℕ) → holder y (hs ++ (x, holder x hs n) ∷ []) m ≡ holder y (hs ++ (x, n) ∷ []) m)
taken_same hs x n y (no e) = (
  holds_other hs x (holder x hs n) y e ∙ sym (holds_other hs x n y e),
  λ m. holder_other hs x (holder x hs n) y m e ∙ sym (holder_other hs x n y m e),
)
taken_same hs x n y (yes e) = (
  holds_same hs x (holder x hs n) y e ∙ sym (holds_same hs x n y e),
  λ m. holder_same hs x (holder x hs n) y m e ∙ ap (λ t. holder y hs (holder t hs n)) (sym e) ∙ twice (holds y hs) refl ∙ sym (holder_same hs x n y m e),
)
  where
    twice : (b : Bool) → holds y hs ≡ b → holder y hs (holder y hs n) ≡ holder y hs n
    twice true h = holder_some y hs (holder y hs n) n h
    twice false h = holder_none y hs (holder y hs n) h

-- ── in the array ──
-- what holds the same labels with the same numbers is held alike
holding_alike : {hs ks : List Held} {s : ℕ} {holders : List Holder}
    → ((y : ℕ) → (holds y ks ≡ holds y hs) × ((m : ℕ) → holder y ks m ≡ holder y hs m)) → Holding hs s holders → Holding ks s holders
holding_alike e h = record {
  long = h.long;
  latest = h.latest;
  stamped = λ y l g. ((e y).0 ∙ (h.stamped y l g).0, λ m. (e y).1 m ∙ (h.stamped y l g).1 m);
  blank = λ y l g. (e y).0 ∙ h.blank y l g;
}

pub holding_taken : (hs : List Held) {s : ℕ} {holders : List Holder} (x n : ℕ) → Holding (hs ++ (x, n) ∷ []) s holders
    → Holding (hs ++ (x, holder x hs n) ∷ []) s holders
holding_taken hs x n h = holding_alike (λ y. taken_same hs x n y (ℕ_discrete y x)) h

-- nothing is held where every stamp is earlier
pub holding_none : {s : ℕ} {holders : List Holder} → length holders ≡ labels_known → ((x : ℕ) → stamp_at holders x < s) → Holding [] s holders
holding_none l h = record {
  long = l;
  latest = λ x. omega (arith, h x);
  stamped = λ x k e. absurd (omega (arith, h x));
  blank = λ x k e. refl;
}

module _ {s x : ℕ} (n : ℕ) {holders : List Holder} (low : x < labels_known) where
  again : (hs : List Held) → stamp_at holders x ≡ s → Holding hs s holders → Holding (hs ++ (x, n) ∷ []) s holders
  again hs e h = record {
    long = h.long;
    latest = h.latest;
    stamped = λ y l g. kept y l g (ℕ_discrete y x);
    blank = λ y l g. holds_other hs x n y (λ q. g (ap (stamp_at holders) q ∙ e)) ∙ h.blank y l g;
  }
    where
      kept : (y : ℕ) → y < labels_known → stamp_at holders y ≡ s → Dec (y ≡ x)
          → (holds y (hs ++ (x, n) ∷ []) ≡ true) × ((m : ℕ) → holder y (hs ++ (x, n) ∷ []) m ≡ number_at holders y)
      kept y l g (yes q) = (holds_same hs x n y q, λ m. holder_same hs x n y m q ∙ (h.stamped y l g).1 n)
      kept y l g (no q) = (holds_other hs x n y q ∙ (h.stamped y l g).0, λ m. holder_other hs x n y m q ∙ (h.stamped y l g).1 m)

  -- the label is held already: nothing changes
  pub held_again : stamp_at holders x ≡ s → HeldOne s x n holders (set holders x (get_or holders x nobody)) (Some (number_at holders x))
  held_again e =
      rw (set-get_or holders x nobody)
      (record { kept = refl; more = λ hs h. (again hs e h, rw (h.stamped x low e).0 (ap (λ m. Some m) (sym ((h.stamped x low e).1 n)))) })

  first : (hs : List Held) → (stamp_at holders x ≡ s → ⊥) → Holding hs s holders → Holding (hs ++ (x, n) ∷ []) s (set holders x (record { stamp = s; number = n }))
  first hs e h = record {
    long = length-set holders x _ ∙ h.long;
    latest = λ y. late y (ℕ_discrete y x);
    stamped = λ y l g. kept y l g (ℕ_discrete y x);
    blank = λ y l g. bare y l g (ℕ_discrete y x);
  }
    where
      here : (y : ℕ) → y ≡ x → get_or (set holders x (record { stamp = s; number = n })) y nobody ≡ record { stamp = s; number = n }
      here y q = ap (λ t. get_or (set holders x (record { stamp = s; number = n })) t nobody) q ∙ get_or-set_same holders x _ nobody (omega (arith, h.long))

      other : (y : ℕ) → (y ≡ x → ⊥) → get_or (set holders x (record { stamp = s; number = n })) y nobody ≡ get_or holders y nobody
      other y q = get_or-set_other holders x y _ nobody q

      late : (y : ℕ) → Dec (y ≡ x) → stamp_at (set holders x (record { stamp = s; number = n })) y ≤ s
      late y (yes q) = omega (arith, ap (λ (t : Holder). t.stamp) (here y q))
      late y (no q) = omega (arith, ap (λ (t : Holder). t.stamp) (other y q), h.latest y)

      kept : (y : ℕ) → y < labels_known → stamp_at (set holders x (record { stamp = s; number = n })) y ≡ s → Dec (y ≡ x)
          → (holds y (hs ++ (x, n) ∷ []) ≡ true) × ((m : ℕ) → holder y (hs ++ (x, n) ∷ []) m ≡ number_at (set holders x (record { stamp = s; number = n })) y)
      kept y l g (yes q) =
          let b : holds y hs ≡ false = ap (λ t. holds t hs) q ∙ h.blank x low e in
          (holds_same hs x n y q, λ m. holder_same hs x n y m q ∙ holder_none y hs n b ∙ sym (ap (λ (t : Holder). t.number) (here y q)))
      kept y l g (no q) =
          let g' : stamp_at holders y ≡ s = sym (ap (λ (t : Holder). t.stamp) (other y q)) ∙ g in
          (holds_other hs x n y q ∙ (h.stamped y l g').0, λ m. holder_other hs x n y m q ∙ (h.stamped y l g').1 m ∙ sym (ap (λ (t : Holder). t.number) (other y q)))

      bare : (y : ℕ) → y < labels_known → (stamp_at (set holders x (record { stamp = s; number = n })) y ≡ s → ⊥) → Dec (y ≡ x) → holds y (hs ++ (x, n) ∷ []) ≡ false
      bare y l g (yes q) = absurd (g (ap (λ (t : Holder). t.stamp) (here y q)))
      bare y l g (no q) = holds_other hs x n y q ∙ h.blank y l (λ z. g (ap (λ (t : Holder). t.stamp) (other y q) ∙ z))

  -- the label was not held: it is now
  pub held_first : (stamp_at holders x ≡ s → ⊥) → HeldOne s x n holders (set holders x (record { stamp = s; number = n })) None
  held_first e = record { kept = length-set holders x _; more = λ hs h. (first hs e h, rw (h.blank x low e) refl) }
