-- From the check of the book to the end of a build.
use mathlib.Core.Path.{◌≡◌, refl, sym, ap, ◌∙◌, subst}
use mathlib.Core.Logic.{inl, inr}
use mathlib.Core.Bool.{Bool, true, false}
use mathlib.Core.List.{List, [], ◌∷◌}
use Prim.Native.Nat.{ℕ, ◌≤◌, ◌<◌}
use native.Mathlib.Omega.{arith}
use borrow.Author.Tests.{lt-ltb, le-ltb}
use lib.ListN.{length}
use Rattle.std.specs.Prelude.{Result, Ok, Err, is_err}
use Rattle.lists.specs.Pick.{pick}
use Rattle.lists.specs.Refusals.{accepted, refused, Sooner, First}
use Rattle.book.specs.Format.{kinds}
use Rattle.bookcheck.specs.Refusals as rows
use Rattle.bookcheck.proofs.Rows.{row_of_book}
use Rattle.bookcheck.proofs.Accepted.{accepted_book}
use Rattle.refusals.specs.declared.Refused.{Refused}
use Rattle.refusals.specs.Table.{number_of}
use Rattle.tables.specs.declared.Counts.{Counts}
use Rattle.tables.specs.Promise.{Lent, zeros, Applies, of_book, short_slice, over_plausible, over_feasible, short_up, short_down, wiped, left_by, BuildDue}
use Rattle.tables.specs.Answer.{said, lent}
use Rattle.members.specs.Room.{Roomy, Measured}
use Rattle.tables.specs.Making.{Lacking, Ready, Worked}
use Rattle.tables.proofs.Exits.{FirstDue, refuse_room}

-- ── the memory ──
lents : (s c f d u w s' c' f' d' u' w' : List ℕ) → s ≡ s' → c ≡ c' → f ≡ f' → d ≡ d' → u ≡ u' → w ≡ w' → lent s c f d u w ≡ lent s' c' f' d' u' w'
lents s c f d u w s' c' f' d' u' w' e₁ e₂ e₃ e₄ e₅ e₆ = rw (e₁, e₂, e₃, e₄, e₅, e₆) refl

-- lengths are all that wiping looks at
pub wiped_same : (m m' : Lent) → length m'.plausible ≡ length m.plausible → length m'.plausible_counts ≡ length m.plausible_counts
    → length m'.feasible ≡ length m.feasible → length m'.feasible_counts ≡ length m.feasible_counts
    → length m'.up ≡ length m.up → length m'.down ≡ length m.down → wiped m' ≡ wiped m
wiped_same m m' a b c d e f = rw (a, b, c, d, e, f) refl

left_early : (n : ℕ) (m : Lent) → n < 9 → m ≡ left_by n m
left_early n m h = rw (lt-ltb n 10 (omega arith)) refl

left_late : (n : ℕ) (m : Lent) → 9 < n → wiped m ≡ left_by n m
left_late n m h = rw (le-ltb n 10 (omega arith)) refl

-- ── the check of the book refuses ──
-- a row of the build that is not later than one of the book is of the book
sooner_row : {n p n' p' : ℕ} → Sooner (rows.turn (n, p)) (rows.turn (n', p')) → n ≤ n'
sooner_row (inl h) = omega arith
sooner_row (inr (e, h)) = omega arith

early_row : {b : List ℕ} {m : Lent} {n p : ℕ} → n < 9 → Applies b m n p → rows.Applies b n p
early_row h (of_book a) = a
early_row h (short_slice a) = absurd (omega arith)
early_row h (over_plausible a) = absurd (omega arith)
early_row h (over_feasible a) = absurd (omega arith)
early_row h (short_up c a l) = absurd (omega arith)
early_row h (short_down c d a a' l) = absurd (omega arith)

first_of_book : {b : List ℕ} {m : Lent} (n p : ℕ) → First rows.turn (λ f. rows.Applies b f.0 f.1) (n, p) → FirstDue b m n p
first_of_book n p (a, before) = (of_book a, λ j s u. let l = sooner_row s in let h = row_of_book a in before j s (early_row (omega arith) u))

-- THEOREM: refusals 1 to 8 are those of the check, and leave the memory as it came
pub refused_book : (b : List ℕ) (m : Lent) (n p : ℕ) → rows.BookDue b (refused n p) → BuildDue b m (refused n p) m
refused_book b m n p ((n', p'), e, e', f) =
    let g : First rows.turn (λ f. rows.Applies b f.0 f.1) (n, p) = rw (← e, ← e') f in
    (first_of_book n p g, left_early n m (row_of_book g.0))

-- ── the check accepts ──
module _ {b : List ℕ} {x y : ℕ} (due : rows.BookDue b (accepted (x ∷ y ∷ []))) where
  pub clean_book : (n p : ℕ) → rows.Applies b n p → ⊥
  clean_book n p = due.1 (n, p)

  pub kinds_told : x ≡ kinds b
  kinds_told = (accepted_book b x y due).1

  -- THEOREM: refusal 9 leaves the memory as it came
  pub refused_room : (m : Lent) → Lacking b m → BuildDue b m (refused 9 0) m
  refused_room m l = (refuse_room clean_book l, refl)

  pub ready_book : (m : Lent) → Roomy (kinds b) (length m.plausible) (length m.plausible_counts) (length m.feasible) (length m.feasible_counts) → Ready b m
  ready_book m r = record { book = (accepted_book b x y due).0; clean = clean_book; room = r }

-- ── the build goes on ──
-- THEOREM: what is said of the book that is refused
pub built_of_book : (b : List ℕ) (m : Lent) (r : Refused) → rows.BookDue b (refused (number_of r.refusal) r.place) → BuildDue b m (said (Err r)) m
built_of_book b m r = refused_book b m (number_of r.refusal) r.place

-- the kinds, measured against the lent memory
module _ {b : List ℕ} (m : Lent) {x y : ℕ} (due : rows.BookDue b (accepted (x ∷ y ∷ []))) {short : Bool}
    (size : Measured x (length m.plausible) (length m.plausible_counts) (length m.feasible) (length m.feasible_counts) short) where
  sized : Measured (kinds b) (length m.plausible) (length m.plausible_counts) (length m.feasible) (length m.feasible_counts) short
  sized = rw (kinds_told due) at size

  pub built_short : short ≡ true → BuildDue b m (refused 9 0) m
  built_short h = refused_room due m (sized.short h)

  pub built_ready : short ≡ false → Ready b m
  built_ready h = ready_book due m (sized.roomy h)

-- what is left of the lent memory, wiped or not
pub left : (q : Bool) (s c f d u w s' c' f' d' u' w' : List ℕ) → s' ≡ pick q (zeros s) s → c' ≡ pick q (zeros c) c → f' ≡ pick q (zeros f) f → d' ≡ pick q (zeros d) d
    → u' ≡ pick q (zeros u) u → w' ≡ pick q (zeros w) w → lent s' c' f' d' u' w' ≡ pick q (wiped (lent s c f d u w)) (lent s c f d u w)
left true s c f d u w s' c' f' d' u' w' = lents s' c' f' d' u' w' (zeros s) (zeros c) (zeros f) (zeros d) (zeros u) (zeros w)
left false s c f d u w s' c' f' d' u' w' = lents s' c' f' d' u' w' s c f d u w

-- THEOREM: what the work came to is what the build comes to, once a refusal's memory is wiped
pub built : (b : List ℕ) (m m' m'' : Lent) (r : Result Counts Refused) (q : Bool) → Worked b m (said r) m' → q ≡ is_err r → wiped m' ≡ wiped m → m'' ≡ pick q (wiped m') m'
    → BuildDue b m (said r) m''
built b m m' m'' (Ok n) q k e z l = subst (λ x. BuildDue b m (said (Ok n)) x) (sym (l ∙ ap (λ t. pick t (wiped m') m') e)) k.due
built b m m' m'' (Err r) q k e z l = (k.due.0, l ∙ ap (λ t. pick t (wiped m') m') e ∙ z ∙ left_late (number_of r.refusal) m k.due.1)
