-- What the sheet check refuses the sheet call refuses too, with the same number and place, unless a count slice is too short: that is 9, and comes sooner.
use mathlib.Core.Path.{refl, subst₂}
use mathlib.Core.Logic.{inl, inr}
use mathlib.Core.List.{List, [], ◌∷◌}
use Prim.Native.Nat.{ℕ, ◌<◌}
use native.Mathlib.Decide.{dec_lt}
use native.Mathlib.Omega.{arith}
use borrow.Author.Tests.{lt-ltb, le-ltb}
use lib.Dec.{ltb}
use lib.ListN.{length}
use Rattle.lists.specs.Pick.{pick}
use Rattle.lists.specs.Refusals.{refused, Sooner}
use Rattle.bookcheck.specs.Refusals as book
use Rattle.bookcheck.proofs.Rows.{row_of_book}
use Rattle.sheet.specs.Refusals as sheet
use Rattle.sheet.proofs.Refusals.{Row, books, lengths, reads, row, fault_low, fault_high}
use Rattle.admission.specs.Refusals.{ShortCounts, stage}
use Rattle.numbering.specs.Walk.{Tables}
use Rattle.numbering.specs.Promise.{Lent, Applies, of_sheet, short_counts, short_room, big_count, bad_up, bad_root, bad_down, Fault, turn, CallDue}

-- ── stages ──
stage_low : (n : ℕ) → n < 24 → stage n < 24
stage_low n h = rw (lt-ltb n 24 h) (go (dec_lt n 21))
  where
    go : Dec (n < 21) → pick (ltb n 21) n 21 < 24
    go (yes l) = rw (lt-ltb n 21 l) (omega arith)
    go (no l) = rw (le-ltb n 21 (omega arith)) (omega arith)

stage_high : (n : ℕ) → 9 < n → 9 < stage n
stage_high n h = go (dec_lt n 21) (dec_lt n 24)
  where
    go : Dec (n < 21) → Dec (n < 24) → 9 < stage n
    go (yes l) k = rw (lt-ltb n 21 l) h
    go (no l) (yes k) = rw (le-ltb n 21 (omega arith), lt-ltb n 24 k) (omega arith)
    go (no l) (no k) = rw (le-ltb n 21 (omega arith), le-ltb n 24 (omega arith)) h

-- the sheet's rows go in a call as they go in the check
as_in_check : (m q n p : ℕ) → m < 24 → n < 24 → Sooner (turn (m, q, q)) (turn (n, p, p)) → Sooner (sheet.turn (m, q)) (sheet.turn (n, p))
as_in_check m q n p h k s = go (rw (lt-ltb m 24 h, lt-ltb n 24 k) at s)
  where
    go : Sooner (pick (ltb m 21) m 21 ∷ q ∷ m ∷ q ∷ []) (pick (ltb n 21) n 21 ∷ p ∷ n ∷ p ∷ []) → Sooner (sheet.turn (m, q)) (sheet.turn (n, p))
    go (inl x) = inl x
    go (inr (e, inl x)) = inr (e, inl x)
    go (inr (e, inr (f, inl x))) = inr (e, inr (f, inl x))
    go (inr (e, inr (f, inr (g, inl x)))) = absurd (omega arith)
    go (inr (e, inr (f, inr (g, inr (i, x))))) = absurd x

-- a later stage is not sooner
not_later : (f g : Fault) → stage g.0 < stage f.0 → Sooner (turn f) (turn g) → ⊥
not_later f g h (inl z) = omega arith
not_later f g h (inr (e, z)) = omega arith

pub sheet_row : {b l : List ℕ} {n p : ℕ} → Row b l n p → n < 24
sheet_row (books a) = let h = row_of_book a in omega arith
sheet_row (lengths e f h) = omega arith
sheet_row (reads ds r f) = fault_low f

module _ {b l : List ℕ} (T : Tables) (m : Lent) where
  -- THEOREM: what the sheet check refuses is refused by the call, where the counts are long enough
  pub refused_alike : {n p : ℕ} → (ShortCounts b (length T.plausible_counts) (length T.feasible_counts) → ⊥) → sheet.SheetDue b l (refused n p)
      → CallDue b l T m (refused n p) m
  refused_alike long ((n, p), en, ep, (a, first)) = subst₂ (λ n p. CallDue b l T m (refused n p) m) en ep ((p, (of_sheet a, λ f s r. before f.0 f.1 f.2 r s)), refl)
    where
      low : stage n < 24
      low = stage_low n (sheet_row (row a))

      before : (n' p' t' : ℕ) → Applies b l T m n' p' t' → Sooner (turn (n', p', t')) (turn (n, p, p)) → ⊥
      before n' p' t' (of_sheet r) s = first (n', p') (as_in_check n' p' n p (sheet_row (row r)) (sheet_row (row a)) s) r
      before n' p' t' (short_counts h) s = long h
      before n' p' t' (short_room h) s = not_later (n', p', t') (n, p, p) low s
      before n' p' t' (big_count h) s = not_later (n', p', t') (n, p, p) (omega (arith, low)) s
      before n' p' t' (bad_up u i q ds t h) s = not_later (n', p', t') (n, p, p) (omega (arith, low)) s
      before n' p' t' (bad_root u h) s = not_later (n', p', t') (n, p, p) (omega (arith, low)) s
      before n' p' t' (bad_down u i q ds t h) s = not_later (n', p', t') (n, p, p) (omega (arith, low)) s

  -- THEOREM: and with 9 where they are not, if the book is free of 1 to 8
  pub refused_short : ((n p : ℕ) → book.Applies b n p → ⊥) → ShortCounts b (length T.plausible_counts) (length T.feasible_counts) → CallDue b l T m (refused 9 0) m
  refused_short free h = ((0, (short_counts h, λ f s r. before f.0 f.1 f.2 r s)), refl)
    where
      later : (n p : ℕ) → Row b l n p → 9 < stage n
      later n p (books a) = absurd (free n p a)
      later n p (lengths e f g) = stage_high n (omega arith)
      later n p (reads ds r f) = stage_high n (omega (arith, fault_high f))

      before : (n' p' t' : ℕ) → Applies b l T m n' p' t' → Sooner (turn (n', p', t')) (turn (9, 0, 0)) → ⊥
      before n' p' t' (of_sheet r) s = not_later (n', p', t') (9, 0, 0) (later n' p' (row r)) s
      before n' p' t' (short_counts g) (inl z) = omega arith
      before n' p' t' (short_counts g) (inr (e, inl z)) = omega arith
      before n' p' t' (short_counts g) (inr (e, inr (f, inl z))) = omega arith
      before n' p' t' (short_counts g) (inr (e, inr (f, inr (i, inl z)))) = omega arith
      before n' p' t' (short_counts g) (inr (e, inr (f, inr (i, inr (j, z))))) = z
      before n' p' t' (short_room g) s = not_later (n', p', t') (9, 0, 0) (omega arith) s
      before n' p' t' (big_count g) s = not_later (n', p', t') (9, 0, 0) (omega arith) s
      before n' p' t' (bad_up u i q ds t g) s = not_later (n', p', t') (9, 0, 0) (omega arith) s
      before n' p' t' (bad_root u g) s = not_later (n', p', t') (9, 0, 0) (omega arith) s
      before n' p' t' (bad_down u i q ds t g) s = not_later (n', p', t') (9, 0, 0) (omega arith) s
