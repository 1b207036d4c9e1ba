-- The exits of the admission: each test, and what it comes to.
use mathlib.Core.Path.{◌≡◌, refl, subst, sym}
use mathlib.Core.Logic.{inl, inr, ◌⊎◌}
use mathlib.Core.List.{List}
use Prim.Native.Nat.{ℕ, ◌*◌, ◌≤◌, ◌<◌}
use native.Mathlib.Omega.{arith}
use Rattle.std.proofs.Common.{Result, Ok, Err}
use Rattle.std.specs.Result.{IsErrAnd}
use Rattle.refusals.specs.Table.{number_of}
use Rattle.refusals.specs.declared.Refusal.TheVariants.{ShortSets, ShortRoom}
use Rattle.refusals.specs.declared.Refused.{Refused}
use Rattle.bookcheck.proofs.Rows.{row_of_book}
use Rattle.sheet.specs.Refusals.{SheetDue, of_book}
use Rattle.sheet.specs.Trees.{Sound}
use Rattle.sheet.specs.declared.Counts.{Counts}
use Rattle.sheet.proofs.Accepted.{accepted_sheet}
use Rattle.admission.specs.Answer.{said}
use Rattle.admission.specs.Refusals as table
use Rattle.admission.specs.Refusals.{ShortCounts, AdmissionDue}
use Rattle.admission.specs.declared.Lengths.{Lengths}
use Rattle.admission.proofs.Turns.{sooner_book}
use Rattle.admission.proofs.Due.{due_sheet, due_counts, due_room}

-- ── what the check of the sheet answered ──
module _ (b l : List ℕ) where
  pub turned_away : (m : Lengths) (r : Result Counts Refused) → SheetDue b l (said r) → IsErrAnd r (λ e. number_of e.refusal < 9) → AdmissionDue b l m (said r)
  turned_away m (Ok c) due h = absurd h
  turned_away m (Err e) ((k, q), ek, eq, x) h = due_sheet (rw (ek, eq) at x) (inl h)

  -- where that is no refusal below 9, the book is sound
  pub sound_by : (r : Result Counts Refused) → SheetDue b l (said r) → ((e : Refused) → r ≡ Err e → 9 ≤ number_of e.refusal) → Sound b
  sound_by (Ok c) due h = (accepted_sheet b l c.nodes c.settings due).0.sound
  sound_by (Err e) ((k, q), ek, eq, x) h = λ f a. x.1 f (sooner_book f.0 f.1 k q (row_of_book a) (omega (arith, h e refl))) (of_book a)

  module _ (m : Lengths) where
    pub turned_short : {r : Refused} → r ≡ record { refusal = ShortSets; place = 0 } → Sound b → ShortCounts b m.plausible_counts m.feasible_counts → AdmissionDue b l m (said (Err r))
    turned_short e sound h = subst (λ (r : Refused). AdmissionDue b l m (said (Err r))) (sym e) (due_counts sound h)

    module _ (long : ShortCounts b m.plausible_counts m.feasible_counts → ⊥) where
      pub turned_later : (e : Refused) → SheetDue b l (said (Err e)) → AdmissionDue b l m (said (Err e))
      turned_later e ((k, q), ek, eq, x) = due_sheet (rw (ek, eq) at x) (inr long)

      module _ (c : Counts) (due : SheetDue b l (said (Ok c))) where
        pub measured_short : {r : Refused} → r ≡ record { refusal = ShortRoom; place = 0 } → (m.nodes < 3 * c.nodes) ⊎ (m.groups < c.settings) → AdmissionDue b l m (said (Err r))
        measured_short e h = subst (λ (r : Refused). AdmissionDue b l m (said (Err r))) (sym e) (due_room (λ k p x. due.1 (k, p) x) long (short h))
          where
            short : (m.nodes < 3 * c.nodes) ⊎ (m.groups < c.settings) → table.ShortRoom b l m.nodes m.groups
            short (inl x) = inl (omega (arith, (accepted_sheet b l c.nodes c.settings due).1))
            short (inr x) = inr (omega (arith, (accepted_sheet b l c.nodes c.settings due).2))
