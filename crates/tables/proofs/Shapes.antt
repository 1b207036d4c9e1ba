-- The shape of a production, read off an accepted book: its slots are the grammar's.
use mathlib.Core.Path.{◌≡◌, refl, sym, ap, ◌∙◌}
use mathlib.Core.List.{List, [], ◌∷◌}
use Prim.Native.Nat.{ℕ, zero, suc, ◌+◌, ◌-◌, ◌^◌, ◌≤◌, ◌<◌}
use native.Mathlib.Nat.{add-zero, zero-add, pow-le-pow_right}
use native.Mathlib.Omega.{arith}
use lib.ListN.{length, get_or}
use lib.Seq.{ext_get_or}
use Rattle.chains.specs.Limits.{max_settings, max_kids, max_members}
use Rattle.chains.specs.Grammar.{Grammar, slots, width}
use Rattle.chains.specs.Labels as labelling
use Rattle.chains.proofs.Labels.{length_labels, labels_at}
use Rattle.book.specs.Format.{kinds, prods, entry, grammar}
use Rattle.book.specs.Reading.{kind_in}
use Rattle.bookcheck.specs.Accepted.{Accepted}
use Rattle.bookcheck.proofs.Accepted.{arity_read, kind_in_read}
use Rattle.ranks.specs.Entries.{choices}
use Rattle.ranks.proofs.Numbers.{choices_few}
use Rattle.tables.specs.Shape.{max_slots, no_slot, kind_of, width_of, kinds_from, first_of, slot_at, slots_at, shape_at, ShapeAt, Small, Countable}
use Rattle.tables.specs.State.{width_in}
use Rattle.tables.specs.declared.shape.Slot.{Slot}
use Rattle.tables.specs.declared.shape.Shape.{Shape}
use Rattle.tables.proofs.StateBase.{width_is, few_settings}

-- ── the reading ──

slots_get : (b : List ℕ) (at t n j : ℕ) → j < n → get_or (slots_at b at t n) j no_slot ≡ slot_at b at (t + j)
slots_get b at t zero j h = elim h [ ]
slots_get b at t (suc n) zero h = ap (slot_at b at) (sym (add-zero t))
slots_get b at t (suc n) (suc j) h =
    let e : suc t + j ≡ t + suc j = omega arith in
    slots_get b at (suc t) n j (omega arith) ∙ ap (slot_at b at) e

-- what is read is the shape
pub shape_read : {b : List ℕ} {at : ℕ} {v : Shape} → v ≡ shape_at b at → ShapeAt b at v
shape_read {b} {at} e = rw e (record {
  arity = refl;
  kinds = λ t l. ap (λ (s : Slot). s.kind) (slots_get b at 0 max_slots t l) ∙ ap (kind_in b at) (zero-add t);
  widths = λ t l. ap (λ (s : Slot). s.width) (slots_get b at 0 max_slots t l) ∙ ap (width_in b at) (zero-add t);
})

-- ── the slots from one on ──
-- as many slots as there are children begin with the first child
pub all_open : (v : Shape) → first_of v v.arity ≡ 1
all_open v = omega arith

pub first_slot : (v : Shape) (left : ℕ) → v.arity + 1 - left ≡ first_of v left
first_slot v left = omega arith

module _ (v : Shape) (t : ℕ) where
  pub kinds_step : t ≤ v.arity → kinds_from v t ≡ kind_of v t ∷ kinds_from v (suc t)
  unfolding kinds_from labelling.labels_by
  kinds_step h = let e : suc v.arity - t ≡ suc (suc v.arity - suc t) = omega arith in rw e

  pub kinds_none : v.arity < t → kinds_from v t ≡ []
  unfolding kinds_from labelling.labels_by
  kinds_none h = let e : suc v.arity - t ≡ 0 = omega arith in rw e

  pub kinds_long : length (kinds_from v t) ≡ suc v.arity - t
  unfolding kinds_from
  kinds_long = length_labels (kind_of v) t (suc v.arity - t)

  pub kinds_at : (j : ℕ) → t + j ≤ v.arity → get_or (kinds_from v t) j 0 ≡ kind_of v (t + j)
  unfolding kinds_from
  kinds_at j h = labels_at (kind_of v) t (suc v.arity - t) j (omega arith)

-- the children have at most so many choices
pub few_choices : {v : Shape} {c : List ℕ} → Countable v c → (t : ℕ) → 0 < t → choices c (kinds_from v t) ≤ max_members ^ max_kids
few_choices {v} {c} h t l =
    let n = kinds_long v t in
    let a : choices c (kinds_from v t) ≤ max_members ^ length (kinds_from v t)
    = choices_few c max_members (kinds_from v t) (λ j k. rw (kinds_at v t j (omega arith)) (h.few (t + j) (omega arith))) in
    let b = pow-le-pow_right {n = max_members} (omega arith) {i = length (kinds_from v t)} {j = max_kids} (omega (arith, h.arity)) in
    omega arith

-- ── of an accepted book ──
module _ {b : List ℕ} (a : Accepted b) (p : ℕ) (l : p < prods b) {v : Shape} (h : ShapeAt b (entry b p) v) where
  abbrev G : Grammar
  G = grammar b

  pub arity_is : v.arity ≡ length (G.kids p)
  arity_is = h.arity ∙ arity_read a p l

  pub arity_few : v.arity ≤ max_kids
  arity_few = omega (arith, arity_is, a.lawful.few_kids p l)

  pub kind_is : (t : ℕ) → t ≤ v.arity → kind_of v t ≡ get_or (slots G p) t 0
  kind_is t k = h.kinds t (omega (arith, arity_few)) ∙ kind_in_read a p l t (omega (arith, arity_is))

  pub width_is_of : (t : ℕ) → t ≤ v.arity → width_of v t ≡ width G p t
  width_is_of t k = h.widths t (omega (arith, arity_few)) ∙ width_is a p l t (omega (arith, h.arity))

  pub width_few : (t : ℕ) → t ≤ v.arity → width_of v t ≤ max_settings
  width_few t k = rw (width_is_of t k) (few_settings a p l t (omega (arith, arity_is)))

  pub kind_below : (t : ℕ) → t ≤ v.arity → kind_of v t < kinds b
  kind_below zero k = rw (kind_is 0 k) (a.lawful.left_in p l)
  kind_below (suc j) k = rw (kind_is (suc j) k) (a.lawful.kids_in p j l (omega (arith, arity_is)))

  -- THEOREM: the slots from 1 on are the children
  pub kids_are : kinds_from v 1 ≡ G.kids p
  kids_are = ext_get_or 0 (kinds_from v 1) (G.kids p) (omega (arith, kinds_long v 1, arity_is)) (λ j k. same j (omega (arith, kinds_long v 1)))
    where
      same : (j : ℕ) → j < v.arity → get_or (kinds_from v 1) j 0 ≡ get_or (G.kids p) j 0
      same j k =
          let e : 1 + j ≡ suc j = omega arith in
          kinds_at v 1 j (omega arith) ∙ ap (kind_of v) e ∙ kind_is (suc j) k

  -- counts of the book's kinds count its own
  pub countable : {c : List ℕ} → Small b c → Countable v c
  countable s = record {
    arity = arity_few;
    here = λ t k. let q = kind_below t k in omega (arith, s.here);
    few = λ t k. s.few (kind_of v t) (kind_below t k);
  }
