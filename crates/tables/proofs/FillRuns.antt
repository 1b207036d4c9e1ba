-- Entries written one behind another: a run of them put over a part of a table, and another behind it.
use mathlib.Core.Path.{◌≡◌, refl, sym, ap, ◌∙◌, subst}
use mathlib.Core.List.{List, [], ◌++◌, append_assoc, append-nil}
use Prim.Native.Nat.{ℕ, zero, suc, ◌+◌, ◌-◌, ◌*◌, ◌≤◌, ◌<◌}
use native.Mathlib.Nat.{add-zero, add-mul, mul-le-mul_right, one-mul}
use native.Mathlib.Numerals.{add-one}
use native.Mathlib.Decide.{dec_lt}
use native.Mathlib.Omega.{arith}
use lib.ListN.{length, take, drop, length-append, length-drop, take-append-drop}
use lib.Seq.{take_at, take_all, take-append-le, drop-append-le, drop-append-add, drop-drop, length-take-le}
use Rattle.lists.specs.Part.{part, place}
use Rattle.lists.proofs.Order.{by_order}
use Rattle.lists.proofs.Parts.{place_long}
use Rattle.tables.specs.Promise.{Written}
use Rattle.tables.specs.Fill.{Run, EntriesLaid, so_many, Filled}

-- ── parts ──
-- a list put behind another over the same list
pub place_behind : (s l m : List ℕ) (a : ℕ) → a + length l + length m ≤ length s → place (a + length l) m (place a l s) ≡ place a (l ++ m) s
place_behind s l m a h =
    let t : length (take a s ++ l) ≡ a + length l = rw (length-append, length-take-le a s (omega arith)) in
    let front : take (a + length l) (place a l s) ≡ take a s ++ l = take_at (take a s ++ l) (drop (a + length l) s) (a + length l) t in
    let d : a + length l + length m ≡ length (take a s ++ l) + length m = omega arith in
    let back : drop (a + length l + length m) (place a l s) ≡ drop (a + length l + length m) s
    = ap (λ (i : ℕ). drop i (place a l s)) d ∙ drop-append-add (take a s ++ l) (drop (a + length l) s) (length m) ∙ drop-drop (length m) (a + length l) s in
    let e : a + length (l ++ m) ≡ a + length l + length m = omega (arith, length-append l m) in
    rw (front, back, e) (ap (λ (u : List ℕ). u ++ drop (a + length l + length m) s) (append_assoc (take a s) l m))

-- a part of the first of two lists, and one of the second
part_first : (l m : List ℕ) (a n : ℕ) → a + n ≤ length l → part a n (l ++ m) ≡ part a n l
part_first l m a n h =
    let k : n ≤ length (drop a l) = rw length-drop (omega arith) in
    rw (drop-append-le a l m (omega arith), take-append-le n (drop a l) m k)

part_second : (l m : List ℕ) (a n b : ℕ) → a ≡ length l + b → part a n (l ++ m) ≡ part b n m
part_second l m a n b e = rw e (ap (take n) (drop-append-add l m b))

-- ── runs ──
run_none : (w : ℕ) (Q : ℕ → List ℕ → Type 0) → Run w 0 Q []
run_none w Q = record { long = omega arith; each = λ i h. absurd (omega arith) }

run_one : {w : ℕ} (Q : ℕ → List ℕ → Type 0) {l : List ℕ} → length l ≡ w → Q 0 l → Run w 1 Q l
run_one {w} Q {l} h q = record { long = omega (arith, one-mul w); each = λ i k. only i k }
  where
    whole : part (0 * w) w l ≡ l
    whole = let z : 0 * w ≡ 0 = omega arith in ap (λ (i : ℕ). part i w l) z ∙ take_all w l (omega arith)

    only : (i : ℕ) → i < 1 → Q i (part (i * w) w l)
    only zero k = subst (Q 0) (sym whole) q
    only (suc i) k = absurd (omega arith)

-- the entries of a second run, numbered from behind the first
abbrev pub Behind : ℕ → ℕ → (Q Q' : ℕ → List ℕ → Type 0) → Type 0
Behind n m Q Q' = (i : ℕ) → i < m → (e : List ℕ) → Q' i e → Q (n + i) e

run_join : {w n m : ℕ} {Q Q' : ℕ → List ℕ → Type 0} {l l' : List ℕ} → Run w n Q l → Run w m Q' l' → Behind n m Q Q' → Run w (n + m) Q (l ++ l')
run_join {w} {n} {m} {Q} {Q'} {l} {l'} r s f = record {
  long = omega (arith, length-append l l', r.long, s.long, add-mul n m w);
  each = λ i h. by i h (dec_lt i n);
}
  where
    by : (i : ℕ) → i < n + m → Dec (i < n) → Q i (part (i * w) w (l ++ l'))
    by i h (yes k) =
        let b : suc i * w ≤ n * w = mul-le-mul_right w k in
        let e : suc i * w ≡ i * w + w = omega arith in
        rw (part_first l l' (i * w) w (omega (arith, r.long))) (r.each i k)
    by i h (no k) =
        let j : n + (i - n) ≡ i = omega arith in
        let b : i * w ≡ length l + (i - n) * w = ap (λ (i : ℕ). i * w) (sym j) ∙ add-mul n (i - n) w ∙ ap (λ (k : ℕ). k + (i - n) * w) (sym r.long) in
        let q = f (i - n) (omega arith) (part ((i - n) * w) w l') (s.each (i - n) (omega arith)) in
        rw (part_second l l' (i * w) w ((i - n) * w) b) (rw j at q)

-- ── runs put over a part ──
pub laid_none : (w : ℕ) (Q : ℕ → List ℕ → Type 0) (out : List ℕ) (a : ℕ) → EntriesLaid w 0 Q out a out a
laid_none w Q out a = record {
  bytes = [];
  run = run_none w Q;
  held = rw (add-zero, append-nil, take-append-drop);
  long = refl;
  ends = omega arith;
}

pub laid_one : {w : ℕ} (Q : ℕ → List ℕ → Type 0) {out : List ℕ} {a : ℕ} {l out' : List ℕ} → length l ≡ w → Q 0 l → a + w ≤ length out → out' ≡ place a l out
    → EntriesLaid w 1 Q out a out' (a + w)
laid_one {w} Q {out} {a} {l} h q f e = record {
  bytes = l;
  run = run_one Q h q;
  held = e;
  long = ap length e ∙ place_long out a l (omega arith);
  ends = omega (arith, one-mul w);
}

-- THEOREM: a run behind a run is one run
pub laid_then : {w n m : ℕ} {Q Q' : ℕ → List ℕ → Type 0} {out : List ℕ} {a : ℕ} {out' : List ℕ} {z : ℕ} {out'' : List ℕ} {y : ℕ} → EntriesLaid w n Q out a out' z
    → EntriesLaid w m Q' out' z out'' y → a + (n + m) * w ≤ length out → Behind n m Q Q' → EntriesLaid w (n + m) Q out a out'' y
laid_then {w} {n} {m} {Q} {Q'} {out} {a} {out'} {z} {out''} {y} h k room f =
    let u = h.bytes in
    let t = k.bytes in
    let c = add-mul n m w in
    let e : z ≡ a + length u = omega (arith, h.ends, h.run.long) in
    record {
      bytes = u ++ t;
      run = run_join h.run k.run f;
      held = k.held ∙ ap (λ (l : List ℕ). place z t l) h.held ∙ ap (λ (i : ℕ). place i t (place a u out)) e
          ∙ place_behind out u t a (omega (arith, h.run.long, k.run.long));
      long = k.long ∙ h.long;
      ends = omega (arith, h.ends, k.ends);
    }

-- the same entries, said otherwise
pub laid_map : {w n : ℕ} {Q Q' : ℕ → List ℕ → Type 0} {out : List ℕ} {a : ℕ} {out' : List ℕ} {z : ℕ} → EntriesLaid w n Q out a out' z
    → ((i : ℕ) → i < n → (e : List ℕ) → Q i e → Q' i e) → EntriesLaid w n Q' out a out' z
laid_map h f = record {
  bytes = h.bytes;
  run = record { long = h.run.long; each = λ i l. f i l _ (h.run.each i l) };
  held = h.held;
  long = h.long;
  ends = h.ends;
}

pub laid_count : {w n m : ℕ} {Q : ℕ → List ℕ → Type 0} {out : List ℕ} {a : ℕ} {out' : List ℕ} {z : ℕ} → EntriesLaid w n Q out a out' z → n ≡ m → EntriesLaid w m Q out a out' z
laid_count {w} {Q = Q} {out} {a} {out'} {z} h e = subst (λ n. EntriesLaid w n Q out a out' z) e h

-- ── blocks of m entries each, one behind another ──
-- r of n blocks are laid
pub record Blocks (w m n : ℕ) (Q : ℕ → List ℕ → Type 0) (out : List ℕ) (a : ℕ) (out' : List ℕ) (z r : ℕ) : Type 0 where
  pub within : r ≤ n
  pub room : a + n * m * w ≤ length out
  pub laid : EntriesLaid w (r * m) Q out a out' z

pub blocks_begun : (w m n : ℕ) (Q : ℕ → List ℕ → Type 0) (out : List ℕ) (a : ℕ) → a + n * m * w ≤ length out → Blocks w m n Q out a out a 0
blocks_begun w m n Q out a h =
    let z : 0 ≡ 0 * m = omega arith in
    record { within = omega arith; room = h; laid = laid_count (laid_none w Q out a) z }

module _ {w m n : ℕ} {Q : ℕ → List ℕ → Type 0} {out : List ℕ} {a : ℕ} {out' : List ℕ} {z r : ℕ} (h : Blocks w m n Q out a out' z r) where
  module _ (l : r < n) where
    one_more : a + (r * m + m) * w ≤ length out
    one_more =
        let b : suc r * m ≤ n * m = mul-le-mul_right m l in
        let e : suc r * m ≡ r * m + m = omega arith in
        let g : (r * m + m) * w ≤ n * m * w = mul-le-mul_right w (omega arith) in
        omega (arith, h.room)

    -- there is room for one more
    pub blocks_room : z + m * w ≤ length out'
    blocks_room = let e = add-mul (r * m) m w in omega (arith, one_more, h.laid.ends, h.laid.long)

    pub blocks_next : {Q' : ℕ → List ℕ → Type 0} {out'' : List ℕ} {y : ℕ} → EntriesLaid w m Q' out' z out'' y → Behind (r * m) m Q Q' → Blocks w m n Q out a out'' y (r + 1)
    blocks_next k f =
        let q : r * m + m ≡ suc r * m = omega arith in
        record { within = omega arith; room = h.room; laid = rw (add-one r) (laid_count (laid_then h.laid k one_more f) q) }

  pub blocks_done : n ≤ r → EntriesLaid w (n * m) Q out a out' z
  blocks_done l = let e : r ≡ n = omega (arith, h.within) in laid_count h.laid (ap (λ (r : ℕ). r * m) e)

-- ── a whole table ──
module _ {w n : ℕ} {Q : ℕ → List ℕ → Type 0} {out out' : List ℕ} {z : ℕ} (h : EntriesLaid w n Q out 0 out' z) (room : n * w ≤ length out) where
  whole : out' ≡ h.bytes ++ drop (n * w) out
  whole = let e : 0 + length h.bytes ≡ n * w = omega (arith, h.run.long) in h.held ∙ ap (λ (i : ℕ). h.bytes ++ drop i out) e

  -- THEOREM: its entries are the run's
  pub laid_each : (i : ℕ) → i < n → Q i (part (i * w) w out')
  laid_each i l =
      let b : suc i * w ≤ n * w = mul-le-mul_right w l in
      let e : suc i * w ≡ i * w + w = omega arith in
      rw (whole, part_first h.bytes (drop (n * w) out) (i * w) w (omega (arith, h.run.long))) (h.run.each i l)

  -- THEOREM: and the rest is as it came
  pub laid_written : Written (n * w) out out'
  laid_written = record {
    long = h.long;
    beyond = ap (drop (n * w)) whole ∙ ap (λ (i : ℕ). drop i (h.bytes ++ drop (n * w) out)) (sym h.run.long ∙ sym (add-zero _))
        ∙ drop-append-add h.bytes (drop (n * w) out) 0;
  }

-- ── all productions ──
-- the entries of n productions by their place in the table
abbrev pub InOrder : (f : ℕ → ℕ) (n : ℕ) (P : ℕ → ℕ → List ℕ → Type 0) → ℕ → List ℕ → Type 0
InOrder f n P j e = (p i : ℕ) → p < n → i < f p → so_many f p + i ≡ j → P p i e

so_many_after : (f : ℕ → ℕ) (p n : ℕ) → p < n → so_many f p + f p ≤ so_many f n
unfolding so_many
so_many_after f p zero h = elim h [ ]
so_many_after f p (suc n) h = by_order (so_many f p + f p ≤ so_many f (suc n)) p n (λ e. rw e (omega arith))
    (λ l. let b = so_many_after f p n l in omega arith) (λ l. absurd (omega arith))

-- production p's entries stand behind those of the productions before it
one_behind : (f : ℕ → ℕ) (n : ℕ) (P : ℕ → ℕ → List ℕ → Type 0) (p : ℕ) → Behind (so_many f p) (f p) (InOrder f n P) (P p)
one_behind f n P p i l e q p' i' h k m =
    by_order (P p' i' e) p' p here (λ b. absurd (omega (arith, so_many_after f p' p b))) (λ b. absurd (omega (arith, so_many_after f p p' b)))
  where
    here : p' ≡ p → P p' i' e
    here r =
        let s : so_many f p' ≡ so_many f p = ap (so_many f) r in
        let d : i' ≡ i = omega arith in
        rw (r, d) q

-- the entries of the first p of n productions
pub record Filling (w : ℕ) (f : ℕ → ℕ) (n : ℕ) (P : ℕ → ℕ → List ℕ → Type 0) (out out' : List ℕ) (z p : ℕ) : Type 0 where
  pub within : p ≤ n
  pub room : so_many f n * w ≤ length out
  pub laid : EntriesLaid w (so_many f p) (InOrder f n P) out 0 out' z

pub filling_begun : {w : ℕ} (f : ℕ → ℕ) (n : ℕ) (P : ℕ → ℕ → List ℕ → Type 0) {out : List ℕ} → so_many f n * w ≤ length out → Filling w f n P out out 0 0
unfolding so_many
filling_begun {w} f n P {out} h = record { within = omega arith; room = h; laid = laid_none w (InOrder f n P) out 0 }

module _ {w : ℕ} {f : ℕ → ℕ} {n : ℕ} {P : ℕ → ℕ → List ℕ → Type 0} {out out' : List ℕ} {z p : ℕ} (h : Filling w f n P out out' z p) where
  module _ (l : p < n) where
    after : (so_many f p + f p) * w ≤ so_many f n * w
    after = mul-le-mul_right w (so_many_after f p n l)

    pub filling_room : z + f p * w ≤ length out'
    filling_room = omega (arith, after, h.room, h.laid.ends, h.laid.long, add-mul (so_many f p) (f p) w)

    pub filling_next : {out'' : List ℕ} {y : ℕ} → EntriesLaid w (f p) (P p) out' z out'' y → Filling w f n P out out'' y (p + 1)
    unfolding so_many
    filling_next k = record {
      within = omega arith;
      room = h.room;
      laid = rw (add-one p) (laid_then h.laid k (omega (arith, after, h.room)) (one_behind f n P p));
    }

  -- THEOREM: each production has its entries, and the rest is as it came
  pub filling_done : n ≤ p → Filled w f n P out out'
  filling_done l = record {
    each = λ q i b k. laid_each all h.room (so_many f q + i) (let c = so_many_after f q n b in omega arith) q i b k refl;
    rest = laid_written all h.room;
  }
    where
      all : EntriesLaid w (so_many f n) (InOrder f n P) out 0 out' z
      all = let e : p ≡ n = omega (arith, h.within) in laid_count h.laid (ap (so_many f) e)
