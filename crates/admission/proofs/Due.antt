-- From what is found to what is due by the admission's table.
use mathlib.Core.Path.{refl, subst}
use mathlib.Core.Logic.{◌⊎◌, inl, inr}
use mathlib.Core.List.{List}
use Prim.Native.Nat.{ℕ, ◌<◌}
use native.Mathlib.Omega.{arith}
use Rattle.lists.specs.Refusals.{refused, Sooner, First}
use Rattle.sheet.specs.Refusals as sheet
use Rattle.sheet.specs.Trees.{Sound}
use Rattle.sheet.proofs.Refusals as sheet_rows
use Rattle.admission.specs.declared.Lengths.{Lengths}
use Rattle.admission.specs.Refusals.{ShortCounts, ShortRoom, of_sheet, short_counts, short_room, turn, AdmissionDue}
use Rattle.admission.proofs.Turns.{Row, sheets, counts, rooms, row, sheet_number, sooner_nine, sooner_room, before_nine, before_room, sooner_sheet}

-- of a sound book no row below 9 applies
sound_late : {b l : List ℕ} {n p : ℕ} → Sound b → n < 9 → sheet.Applies b l n p → ⊥
sound_late {b} {l} {n} {p} sound h a = go (sheet_rows.row a)
  where
    go : sheet_rows.Row b l n p → ⊥
    go (sheet_rows.books x) = sound (n, p) x
    go (sheet_rows.lengths e f x) = omega arith
    go (sheet_rows.reads ds r x) = omega (arith, sheet_rows.fault_high x)

module _ {b l : List ℕ} {m : Lengths} where
  -- the sheet's own refusals: 1 to 8, or 20 to 23 where the count slices are long enough
  pub due_sheet : {n p : ℕ} → First sheet.turn (λ (f : ℕ × ℕ). sheet.Applies b l f.0 f.1) (n, p)
      → (n < 9) ⊎ (ShortCounts b m.plausible_counts m.feasible_counts → ⊥) → AdmissionDue b l m (refused n p)
  due_sheet {n} {p} (a, first) long = ((n, p), refl, refl, (of_sheet a, λ j s x. before j.0 j.1 s (row x)))
    where
      enough : (n < 9) ⊎ (ShortCounts b m.plausible_counts m.feasible_counts → ⊥) → (q : ℕ) → Sooner (turn (9, q)) (turn (n, p))
          → ShortCounts b m.plausible_counts m.feasible_counts → ⊥
      enough (inl h) q s x = sooner_nine q n p h s
      enough (inr h) q s x = h x

      before : (k q : ℕ) → Sooner (turn (k, q)) (turn (n, p)) → Row b l m k q → ⊥
      before k q s (sheets x) = first (k, q) (sooner_sheet k q n p (sheet_number x) (sheet_number a) s) x
      before k q s (counts e f x) = enough long q (subst (λ (y : ℕ). Sooner (turn (y, q)) (turn (n, p))) e s) x
      before k q s (rooms e f x) = sooner_room q n p (sheet_number a) (subst (λ (y : ℕ). Sooner (turn (y, q)) (turn (n, p))) e s)

  -- 9, where the book is sound
  pub due_counts : Sound b → ShortCounts b m.plausible_counts m.feasible_counts → AdmissionDue b l m (refused 9 0)
  due_counts sound h = ((9, 0), refl, refl, (short_counts h, λ j s x. before j.0 j.1 (before_nine j.0 j.1 s) (row x)))
    where
      before : (k q : ℕ) → k < 9 → Row b l m k q → ⊥
      before k q s (sheets x) = sound_late sound s x
      before k q s (counts e f x) = omega arith
      before k q s (rooms e f x) = omega arith

  -- 24, where no row of the sheet applies and the count slices are long enough
  pub due_room : ((n p : ℕ) → sheet.Applies b l n p → ⊥) → (ShortCounts b m.plausible_counts m.feasible_counts → ⊥) → ShortRoom b l m.nodes m.groups
      → AdmissionDue b l m (refused 24 0)
  due_room none long h = ((24, 0), refl, refl, (short_room h, λ j s x. before j.0 j.1 (before_room j.0 j.1 s) (row x)))
    where
      before : (k q : ℕ) → k < 24 → Row b l m k q → ⊥
      before k q s (sheets x) = none k q x
      before k q s (counts e f x) = long x
      before k q s (rooms e f x) = omega arith
