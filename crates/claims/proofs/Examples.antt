-- The table of worked examples holds, row by row.
use mathlib.Core.Path.{refl}
use mathlib.Core.Logic.{inl, inr}
use mathlib.Core.List.{List, [], ◌∷◌}
use Prim.Native.Nat.{ℕ, ◌≤◌, ◌<◌}
use native.Mathlib.Omega.{arith}
use lib.ListN.{length, get_or}
use Rattle.lists.specs.Refusals.{refused}
use Rattle.chains.specs.Limits.{max_nodes}
use Rattle.chains.specs.Grammar.{Grammar}
use Rattle.book.specs.Format.{entry, grammar}
use Rattle.sheet.specs.Reading.{Node, due, Read, begun, further, all_settings}
use Rattle.sheet.specs.Refusals as sheet
use Rattle.sheet.specs.Stops.{Fault, unknown, unfit, deep, Stop}
use Rattle.sheet.proofs.Refusals.{stop_refused}
use Rattle.ranks.specs.Entries.{choices, choice, up_start, down_start}
use Rattle.numbering.specs.Walk.{ranks, places, numbered, unused, slot_labels, kid_labels, walk, root_entry, root_labels}
use Rattle.claims.specs.Examples.{book, CallRefused, table, AllHold}
use Rattle.claims.proofs.SheetRows.{refused_alike, refused_short}
use Rattle.claims.proofs.Figure.{book_free, left}
use Rattle.claims.proofs.FigureSets.{plausible_exactly, feasible_exactly, two_rise, three_rise, two_of_Y_rise, figure_built}
use Rattle.claims.proofs.FigureSheets.{drawn_1_3, drawn_2_4, grouped_so}

abbrev G : Grammar
G = grammar book

-- ── sheets that are refused: what is due after each byte, up to the place of the refusal ──
begins : (l : List ℕ) → Read G l 0 ((0, 1) ∷ [])
begins l = begun refl

refuse : (l : List ℕ) → 0 < length l → length l ≤ max_nodes → {n p : ℕ} → Stop G l n p → sheet.SheetDue book l (refused n p)
refuse l some few stop = stop_refused (λ f a. book_free f.0 f.1 a) some few stop

-- 21 comes before 22, and is met only where a byte names no production
only_22 : {l : List ℕ} {i : ℕ} {ds : List Node} → (i < length l → get_or l i 0 < 5) → (m : ℕ) → m < 22 → Fault G l i ds m → ⊥
only_22 known m low (unknown u) = let k = known u.0 in omega (arith, u.1)
only_22 known m low (unfit u) = omega arith
only_22 known m low (deep u) = omega arith

only_21 : {l : List ℕ} {i : ℕ} {ds : List Node} (m : ℕ) → m < 21 → Fault G l i ds m → ⊥
only_21 m low (unknown u) = omega arith
only_21 m low (unfit u) = omega arith
only_21 m low (deep u) = omega arith

ends_early : sheet.SheetDue book (0 ∷ 1 ∷ []) (refused 22 2)
unfolding entry
ends_early = refuse (0 ∷ 1 ∷ []) (omega arith) (omega arith) (record {
  awaited = (2, 3) ∷ [];
  was_due = further (further (begins (0 ∷ 1 ∷ [])) (omega arith) (omega arith, refl) (omega arith) refl) (omega arith) (omega arith, refl) (omega arith) refl;
  fault = unfit (inl refl);
  lowest = only_22 (λ h. absurd (omega arith));
})

bytes_left : sheet.SheetDue book (0 ∷ 1 ∷ 3 ∷ 3 ∷ []) (refused 22 3)
unfolding entry
bytes_left = refuse (0 ∷ 1 ∷ 3 ∷ 3 ∷ []) (omega arith) (omega arith) (record {
  awaited = [];
  was_due = further (further (further (begins (0 ∷ 1 ∷ 3 ∷ 3 ∷ [])) (omega arith) (omega arith, refl) (omega arith) refl) (omega arith) (omega arith, refl) (omega arith) refl)
      (omega arith) (omega arith, refl) (omega arith) refl;
  fault = unfit (omega arith);
  lowest = only_22 (λ h. omega arith);
})

no_production : sheet.SheetDue book (0 ∷ 9 ∷ []) (refused 21 1)
unfolding entry
no_production = refuse (0 ∷ 9 ∷ []) (omega arith) (omega arith) (record {
  awaited = (1, 2) ∷ [];
  was_due = further (begins (0 ∷ 9 ∷ [])) (omega arith) (omega arith, refl) (omega arith) refl;
  fault = unknown (omega arith, omega arith);
  lowest = only_21;
})

wrong_kind : sheet.SheetDue book (3 ∷ []) (refused 22 0)
unfolding entry
wrong_kind = refuse (3 ∷ []) (omega arith) (omega arith) (record {
  awaited = (0, 1) ∷ [];
  was_due = begins (3 ∷ []);
  fault = unfit (inr (omega arith, λ e. omega arith));
  lowest = only_22 (λ h. omega arith);
})

-- and the sheet call refuses them so, whatever it is lent
call_refused : {l : List ℕ} {number place : ℕ} → sheet.SheetDue book l (refused number place) → CallRefused l number place
call_refused due T n = (
  λ c d. refused_alike T n (λ h. elim h [ inl u ↦ omega arith | inr u ↦ omega arith ]) due,
  λ h. refused_short T n book_free h,
)

-- THEOREM: every row of the table holds
pub examples_hold : AllHold table
unfolding entry all_settings ranks places numbered unused slot_labels kid_labels walk root_entry root_labels choices choice up_start down_start
examples_hold = (
  (two_rise, plausible_exactly 0),
  (
    (three_rise, plausible_exactly 1),
    (
      (two_of_Y_rise, plausible_exactly 2),
      (
        (two_rise, feasible_exactly 0),
        (
          (three_rise, feasible_exactly 1),
          (
            (three_rise, feasible_exactly 2),
            (
              (left, figure_built),
              (
                grouped_so 0 1 3 drawn_1_3 refl _ _ _ refl refl refl refl refl,
                (
                  grouped_so 0 2 4 drawn_2_4 refl _ _ _ refl refl refl refl refl,
                  (
                    (ends_early, call_refused ends_early),
                    (
                      (bytes_left, call_refused bytes_left),
                      (
                        (no_production, call_refused no_production),
                        (
                          (wrong_kind, call_refused wrong_kind),
                          tt,
                        ),
                      ),
                    ),
                  ),
                ),
              ),
            ),
          ),
        ),
      ),
    ),
  ),
)
