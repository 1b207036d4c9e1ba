-- The numbers of entries, worked out child by child and production by production.
use mathlib.Core.Path.{◌≡◌, sym, ap, ap₂, ◌∙◌}
use mathlib.Core.List.{List}
use Prim.Native.Nat.{ℕ, suc, ◌+◌, ◌*◌, ◌^◌, ◌≤◌, ◌<◌}
use native.Mathlib.Nat.{mul-le-mul, mul_assoc, mul-one, one-mul, pow-suc, pow-le-pow_right}
use native.Mathlib.Numerals.{add-one}
use native.Mathlib.Omega.{arith}
use lib.ListN.{length, get_or, take}
use lib.Seq.{length-take-le, get_or-take}
use Rattle.chains.specs.Limits.{max_kids, max_members, max_prods}
use Rattle.book.specs.Format.{kinds, prods, entry, grammar}
use Rattle.book.specs.Reading.{told, Index}
use Rattle.bookcheck.specs.Accepted.{Accepted}
use Rattle.bookcheck.proofs.Accepted.{told_prods, place_read}
use Rattle.ranks.specs.Entries.{choices, up_start, down_start}
use Rattle.ranks.proofs.Numbers.{choices_few, up_start_few, down_start_few}
use Rattle.tables.specs.Memory.{Fine}
use Rattle.tables.specs.State.{Readable, based}
use Rattle.tables.specs.Shape.{no_slot, kind_of, kinds_from, shape_at, shape_of, base_of, ShapeAt, Opened, Small, Countable}
use Rattle.tables.specs.declared.shape.Slot.{Slot}
use Rattle.tables.specs.declared.shape.Shape.{Shape}
use Rattle.tables.proofs.StateBase.{readable}
use Rattle.tables.proofs.Shapes.{shape_read, kinds_step, kinds_none, few_choices, kind_is, kids_are, countable}

-- sets in order have small counts
pub fine_small : {b : List ℕ} {P : ℕ → ℕ → Type 0} {s c : List ℕ} → Fine (kinds b) P s c → Small b c
fine_small f = record { here = f.here; few = f.few }

-- ── a production at its place ──
module _ {b places : List ℕ} (o : Opened b places) {p : ℕ} (l : p < length places) where
  pub opened_below : p < prods b
  opened_below = rw (← o.many) l

  pub opened_place : get_or places p 0 ≡ entry b p
  opened_place = o.each p opened_below

  pub opened_readable : Readable b (get_or places p 0)
  opened_readable = rw opened_place (readable o.book p opened_below)

  pub opened_base : {x : List ℕ} → x ≡ based b (get_or places p 0) → x ≡ base_of b p
  opened_base e = e ∙ ap (based b) opened_place

  pub opened_shape : {v : Shape} → v ≡ shape_at b (get_or places p 0) → v ≡ shape_of b p
  opened_shape e = e ∙ ap (shape_at b) opened_place

-- the places that a book's index has for its productions
pub opened_by : {b index : List ℕ} {n : ℕ} → Accepted b → Index b index → n ≡ told b 2 → Opened b (take n index)
opened_by {b} {index} {n} a x e =
    let m : n ≡ prods b = e ∙ told_prods a in
    record {
      book = a;
      many = length-take-le n index (omega (arith, a.few_prods, x.long)) ∙ m;
      each = λ p l. get_or-take n index p 0 (omega arith) ∙ place_read a x p l;
    }

-- ── a production's choices ──
-- x is the number of choices for the first i children; so many times those for the rest is the number of all
pub record Multiplying (v : Shape) (c : List ℕ) (x i : ℕ) : Type 0 where
  pub few : x ≤ max_members ^ i
  pub held : x * choices c (kinds_from v (suc i)) ≡ choices c (kinds_from v 1)

pub none_chosen : (v : Shape) (c : List ℕ) → Multiplying v c 1 0
none_chosen v c = record { few = omega arith; held = one-mul _ }

module _ {v : Shape} {c : List ℕ} (small : Countable v c) {x i : ℕ} (h : Multiplying v c x i) where
  -- child i's slot is q
  module _ (l : i < v.arity) {q : Slot} (e : q ≡ get_or v.slots (suc i) no_slot) where
    pub choose_here : q.kind < length c
    choose_here = rw e (small.here (suc i) l)

    abbrev n : ℕ
    n = get_or c q.kind 0

    more : x * n ≤ max_members ^ suc i
    more =
        let f : n ≤ max_members = rw e (small.few (suc i) l) in
        let w : x * n ≤ max_members ^ i * max_members = mul-le-mul h.few f in
        omega (arith, pow-suc max_members i)

    pub choose_fits : x * n ≤ max_members ^ max_kids
    choose_fits =
        let p = pow-le-pow_right {n = max_members} (omega arith) {i = suc i} {j = max_kids} (omega (arith, small.arity)) in
        omega (arith, more)

    pub choose_turn : Multiplying v c (x * n) (i + 1)
    unfolding choices
    choose_turn =
        let ks = kinds_from v (suc (suc i)) in
        let s : n * choices c ks ≡ choices c (kinds_from v (suc i))
        = ap (λ (q : Slot). get_or c q.kind 0 * choices c ks) e ∙ sym (ap (choices c) (kinds_step v (suc i) l)) in
        rw (add-one i) (record { few = more; held = mul_assoc x n (choices c ks) ∙ ap (λ (m : ℕ). x * m) s ∙ h.held })

  pub choose_done : v.arity ≤ i → (x ≡ choices c (kinds_from v 1)) × (x ≤ max_members ^ max_kids)
  unfolding choices
  choose_done l =
      let e : x ≡ choices c (kinds_from v 1)
      = sym (mul-one x) ∙ ap (λ (m : ℕ). x * m) (sym (ap (choices c) (kinds_none v (suc i) (omega arith)))) ∙ h.held in
      (e, rw e (few_choices small 1 (omega arith)))

-- ── all productions ──
module _ {b places : List ℕ} (o : Opened b places) {p : ℕ} (l : p < length places) {v : Shape} (e : v ≡ shape_at b (get_or places p 0)) where
  shape_here : ShapeAt b (entry b p) v
  shape_here = shape_read (opened_shape o l e)

  pub opened_countable : {c : List ℕ} → Small b c → Countable v c
  opened_countable s = countable o.book p (opened_below o l) shape_here s

  opened_choices : (c : List ℕ) → choices c (kinds_from v 1) ≡ choices c ((grammar b).kids p)
  opened_choices c = ap (choices c) (kids_are o.book p (opened_below o l) shape_here)

  opened_left : kind_of v 0 ≡ (grammar b).left p
  opened_left = kind_is o.book p (opened_below o l) shape_here 0 (omega arith)

module _ {b places : List ℕ} (o : Opened b places) {c : List ℕ} (s : Small b c) where
  choices_low : (p : ℕ) → p < prods b → choices c ((grammar b).kids p) ≤ max_members ^ max_kids
  choices_low p l =
      let ks = (grammar b).kids p in
      let a = choices_few c max_members ks (λ j k. s.few (get_or ks j 0) (o.book.lawful.kids_in p j l k)) in
      let e = pow-le-pow_right {n = max_members} (omega arith) {i = length ks} {j = max_kids} (o.book.lawful.few_kids p l) in
      omega arith

  -- THEOREM: the up entries are few
  pub up_few : (n : ℕ) → n ≤ prods b → up_start (grammar b) c n ≤ max_prods * max_members ^ max_kids
  up_few n h =
      let a = up_start_few (grammar b) c (max_members ^ max_kids) n (λ p l. choices_low p (omega arith)) in
      omega (arith, o.book.few_prods)

  -- THEOREM: and so are the down entries
  pub down_few : {d : List ℕ} → Small b d → (n : ℕ) → n ≤ prods b → down_start (grammar b) c d n ≤ max_prods * max_members ^ (1 + max_kids)
  down_few {d} t n h = omega (arith, down_start_few (grammar b) c d (max_members ^ (1 + max_kids)) n low, o.book.few_prods)
    where
      low : (p : ℕ) → p < n → get_or d ((grammar b).left p) 0 * choices c ((grammar b).kids p) ≤ max_members ^ (1 + max_kids)
      low p l =
          let f = t.few ((grammar b).left p) (o.book.lawful.left_in p (omega arith)) in
          let w : get_or d ((grammar b).left p) 0 * choices c ((grammar b).kids p) ≤ max_members * max_members ^ max_kids = mul-le-mul f (choices_low p (omega arith)) in
          omega arith

  -- ── production by production ──
  module _ {p : ℕ} (l : p < length places) {v : Shape} (e : v ≡ shape_at b (get_or places p 0)) {x : ℕ} where
    -- the next one's choices are added
    module _ {y : ℕ} (m : y ≡ choices c (kinds_from v 1)) (t : x ≡ up_start (grammar b) c p) where
      pub up_sum : x + y ≡ up_start (grammar b) c (p + 1)
      unfolding up_start
      up_sum = ap₂ ◌+◌ t (m ∙ opened_choices o l e c) ∙ ap (up_start (grammar b) c) (sym (add-one p))

      pub up_fits : x + y ≤ max_prods * max_members ^ max_kids
      up_fits = rw up_sum (up_few (p + 1) (let b = opened_below o l in omega arith))

    module _ {d : List ℕ} (few : Small b d) {y : ℕ} (m : y ≡ choices c (kinds_from v 1)) {z k : ℕ} (q : k ≡ kind_of v 0) (r : z ≡ get_or d k 0 * y)
        (t : x ≡ down_start (grammar b) c d p) where
      pub down_sum : x + z ≡ down_start (grammar b) c d (p + 1)
      unfolding down_start
      down_sum =
          let n : get_or d k 0 ≡ get_or d ((grammar b).left p) 0 = ap (λ (k : ℕ). get_or d k 0) (q ∙ opened_left o l e) in
          ap₂ ◌+◌ t (r ∙ ap₂ ◌*◌ n (m ∙ opened_choices o l e c)) ∙ ap (down_start (grammar b) c d) (sym (add-one p))

      pub down_fits : x + z ≤ max_prods * max_members ^ (1 + max_kids)
      down_fits = rw down_sum (down_few few (p + 1) (let b = opened_below o l in omega arith))
