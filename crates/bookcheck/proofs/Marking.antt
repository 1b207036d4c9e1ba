-- Refusal 8: the walk that marks left kinds.
use mathlib.Core.Path.{◌≡◌, ap, sym, ◌∙◌}
use mathlib.Core.List.{List}
use Prim.Native.Nat.{ℕ, ◌+◌, ◌≤◌, ◌<◌}
use native.Mathlib.Decide.{dec_lt, ℕ_discrete}
use native.Mathlib.Omega.{arith}
use lib.Dec.{eqb}
use lib.ListN.{get_or, set, length-set, replicate, length-replicate, get_or-replicate}
use lib.Seq.{get_or-set_same, get_or-set_other}
use Rattle.chains.specs.Limits.{max_kinds}
use Rattle.book.specs.Format.{left_at, next_at, entry, prods, trailer, grammar}
use Rattle.book.specs.Reading.{following}
use Rattle.bookcheck.specs.Refusals.{Headless}
use Rattle.bookcheck.specs.Search.{Tells, Marks, Markable}
use Rattle.bookcheck.proofs.Answers.{tells_eq}
use Rattle.bookcheck.proofs.Laying.{inside}
use Rattle.book.proofs.Places.{following_is, entry_first, entry_next}

-- p of the m entries are passed, and the next one stands at `at`
pub record Marking (b : List ℕ) (m : ℕ) (marks : List ℕ) (at p : ℕ) : Type 0 where
  pub can : Markable b m
  pub within : p ≤ m
  pub here : at ≡ entry b p
  pub near : at ≤ trailer b
  pub made : Marks b p marks

pub marking_begins : {b : List ℕ} {m at : ℕ} → Markable b m → at ≡ entry b 0 → Marking b m (replicate max_kinds 0) at 0
marking_begins {b} c e = record {
  can = c;
  within = omega arith;
  here = e;
  near = omega (arith, entry_first b);
  made = record {
    long = length-replicate {A = ℕ} max_kinds 0;
    blank = λ k p l z h. absurd (omega arith);
    made = λ k l z. absurd (z (get_or-replicate {A = ℕ} max_kinds k 0 0 l));
  };
}

pub left_low : {b marks : List ℕ} {m at p : ℕ} → Marking b m marks at p → p < m → left_at b at < max_kinds
left_low {b} w l = rw w.here (w.can.low _ (omega (arith, w.can.prods_told)))

module _ {b marks : List ℕ} {m at p k : ℕ} (w : Marking b m marks at p) (l : p < m) (ek : k ≡ left_at b at) where
  head_here : left_at b (entry b p) ≡ k
  head_here = ap (left_at b) (sym w.here) ∙ sym ek

  head_low : k < max_kinds
  head_low = omega (arith, left_low w l)

  marked : Marks b (p + 1) (set marks k 1)
  marked = record {
    long = length-set marks k 1 ∙ w.made.long;
    blank = λ j q h z i e. blank_at j q h z i e (ℕ_discrete j k) (dec_lt q p);
    made = λ j h z. made_at j h z (ℕ_discrete j k);
  }
    where
      one : get_or (set marks k 1) k 0 ≡ 1
      one = get_or-set_same marks k 1 0 (omega (arith, head_low, w.made.long))

      blank_at : (j q : ℕ) → j < max_kinds → get_or (set marks k 1) j 0 ≡ 0 → q < p + 1 → left_at b (entry b q) ≡ j → Dec (j ≡ k) → Dec (q < p) → ⊥
      blank_at j q h z i e (yes s) d = let o : get_or (set marks k 1) j 0 ≡ 1 = rw s one in omega arith
      blank_at j q h z i e (no s) (yes d) = w.made.blank j q h (sym (get_or-set_other marks k j 1 0 s) ∙ z) d e
      blank_at j q h z i e (no s) (no d) =
          let o : q ≡ p = omega arith in
          s (sym e ∙ ap (λ n. left_at b (entry b n)) o ∙ head_here)

      made_at : (j : ℕ) → j < max_kinds → (get_or (set marks k 1) j 0 ≡ 0 → ⊥) → Dec (j ≡ k) → (q : ℕ) × (q < p + 1) × (left_at b (entry b q) ≡ j)
      made_at j h z (yes s) = (p, omega arith, head_here ∙ sym s)
      made_at j h z (no s) =
          let (q, i, e) = w.made.made j h (λ o. z (get_or-set_other marks k j 1 0 s ∙ o)) in
          (q, omega arith, e)

  pub marking_goes : {next : ℕ} → next ≡ following b at → Marking b m (set marks k 1) next (p + 1)
  marking_goes f = let e = following_is b at f (omega (arith, w.near, w.can.laid.whole)) in record {
    can = w.can;
    within = omega arith;
    here = e ∙ ap (next_at b) w.here ∙ sym (entry_next b p);
    near = let n : next_at b at ≤ trailer b = rw w.here (inside w.can.laid p (omega (arith, w.can.prods_told))) in omega arith;
    made = marked;
  }

pub marking_ends : {b marks : List ℕ} {m at p : ℕ} → Marking b m marks at p → m ≤ p → Marks b m marks
marking_ends {m = m} {p = p} w l = let e : p ≡ m = omega arith in rw e at w.made

pub mark_tells : {b marks : List ℕ} {m : ℕ} → Marks b m marks → m ≡ prods b → {j k : ℕ} → j ≡ k → k < max_kinds
    → Tells (Headless (grammar b) k) (eqb (get_or marks j 0) 0)
mark_tells {b} {marks} w e {j} {k} s l =
    rw s
    (tells_eq (get_or marks k 0) 0
    (λ z p h. w.blank k p l z (omega arith))
    (λ z h. let (p, i, q) = w.made k l z in h p (omega arith) q))
