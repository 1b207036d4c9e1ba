-- Fig. 1 is not refused: no row applies to a build of its book in memory that is enough, nor to a call with one of the worked sheets.
use mathlib.Core.Path.{◌≡◌, refl, subst}
use mathlib.Core.Logic.{inl, inr}
use mathlib.Core.List.{List, [], ◌∷◌}
use Prim.Native.Nat.{ℕ, ◌≤◌}
use native.Mathlib.Omega.{arith}
use lib.ListN.{length}
use Rattle.lists.specs.Refusals.{accepted}
use Rattle.book.specs.Format.{entry, grammar}
use Rattle.sheet.specs.Reading.{all_settings}
use Rattle.tables.specs.Promise as tables
use Rattle.numbering.specs.Walk.{Tables}
use Rattle.numbering.specs.Promise as numbering
use Rattle.claims.specs.Build.{LeftBy}
use Rattle.claims.specs.Examples.{book}
use Rattle.claims.specs.NotRefused.{Worked, NothingRefused}
use Rattle.claims.proofs.Never25 as own
use Rattle.claims.proofs.FigureSets.{no_row}
use Rattle.claims.proofs.FigureSheets.{sound, drawn_1_3, drawn_2_4}

-- either sheet has three nodes and ten settings, and the sheet check accepts it
settings_1_3 : all_settings (grammar book) (0 ∷ 1 ∷ 3 ∷ []) ≡ 10
unfolding entry all_settings
settings_1_3 = refl

settings_2_4 : all_settings (grammar book) (0 ∷ 2 ∷ 4 ∷ []) ≡ 10
unfolding entry all_settings
settings_2_4 = refl

module _ {m₀ m : tables.Lent} {made : List ℕ} (build : tables.BuildDue book m₀ (accepted made) m) {T : Tables} (taken : LeftBy (grammar book) m T) {n₀ : numbering.Lent}
    (nodes : 9 ≤ length n₀.nodes) (groups : 10 ≤ length n₀.groups) where
  no_row_called : (l : List ℕ) → Worked l → (n p t : ℕ) → numbering.Applies book l T n₀ n p t → ⊥
  no_row_called l (inl e) n p t a = own.no_row build taken (sound 0 1 3 drawn_1_3) (omega arith) (omega (arith, settings_1_3)) n p t (subst (λ (l : List ℕ). numbering.Applies book l T n₀ n p t) e a)
  no_row_called l (inr e) n p t a = own.no_row build taken (sound 0 2 4 drawn_2_4) (omega arith) (omega (arith, settings_2_4)) n p t (subst (λ (l : List ℕ). numbering.Applies book l T n₀ n p t) e a)

-- THEOREM: no refusal is due
pub nothing_refused : NothingRefused
nothing_refused = record {
  build = λ m₀ m roomy number place due. no_row roomy number place due.0.0;
  call = λ m₀ m made build T taken l worked n₀ n nodes groups number place due. no_row_called build taken nodes groups l worked number place due.0.0 due.0.1.0;
}
