-- Sheets of Fig. 1 that are grouped: the tree of each, and what the walk by the tables that a build leaves tells of it.
use mathlib.Core.Path.{◌≡◌, refl, sym, ◌∙◌, subst}
use mathlib.Core.List.{List, [], ◌∷◌, append-nil}
use Prim.Native.Nat.{ℕ}
use native.Mathlib.Omega.{arith}
use lib.ListN.{length, replicate, length-replicate}
use Rattle.lists.specs.Refusals.{accepted}
use Rattle.chains.specs.Grammar.{Grammar}
use Rattle.chains.specs.Tree.{Bush, nil, grow}
use Rattle.book.specs.Format.{entry, grammar}
use Rattle.sheet.specs.Reading.{all_settings}
use Rattle.sheet.specs.Refusals as sheet
use Rattle.sheet.specs.Trees.{Drawn}
use Rattle.sheet.proofs.Trees.{sheet_tree}
use Rattle.tables.specs.Promise as tables
use Rattle.tables.proofs.Promise.{build_once}
use Rattle.numbering.specs.Walk.{places, started, group_numbers}
use Rattle.numbering.specs.Promise.{Lent, CallDue}
use Rattle.claims.specs.Build.{tables_of}
use Rattle.claims.specs.Examples.{book, room, grouped, Claim}
use Rattle.claims.proofs.Served.{taken_whole}
use Rattle.claims.proofs.Never25.{no_row}
use Rattle.claims.proofs.Figure.{book_free, left}
use Rattle.claims.proofs.FigureSets.{figure_built}

abbrev G : Grammar
G = grammar book

-- every accepted build in that room leaves what was worked out
left_only : (m : tables.Lent) (made : List ℕ) → tables.BuildDue book room (accepted made) m → left ≡ m
left_only m made due = (build_once book room (accepted (9 ∷ 24 ∷ [])) (accepted made) left m figure_built due).1

-- the tree of a production, one below it and one below that
abbrev pub tower : ℕ → ℕ → ℕ → Bush
tower p q r = grow p (grow q (grow r nil nil) nil) nil

-- 0 1 3, 0 2 3 and 0 2 4 are sheets of such trees
pub drawn_1_3 : Drawn G (0 ∷ 1 ∷ 3 ∷ []) (tower 0 1 3)
unfolding entry
drawn_1_3 = record {
  kinded = ((omega arith, refl), ((omega arith, refl), ((omega arith, refl), tt, tt), tt), tt);
  shallow = (omega arith, (omega arith, (omega arith, tt, tt), tt), tt);
  bytes = refl;
}

pub drawn_2_3 : Drawn G (0 ∷ 2 ∷ 3 ∷ []) (tower 0 2 3)
unfolding entry
drawn_2_3 = record {
  kinded = ((omega arith, refl), ((omega arith, refl), ((omega arith, refl), tt, tt), tt), tt);
  shallow = (omega arith, (omega arith, (omega arith, tt, tt), tt), tt);
  bytes = refl;
}

pub drawn_2_4 : Drawn G (0 ∷ 2 ∷ 4 ∷ []) (tower 0 2 4)
unfolding entry
drawn_2_4 = record {
  kinded = ((omega arith, refl), ((omega arith, refl), ((omega arith, refl), tt, tt), tt), tt);
  shallow = (omega arith, (omega arith, (omega arith, tt, tt), tt), tt);
  bytes = refl;
}

-- the sheet check accepts such a sheet
pub sound : (p q r : ℕ) → Drawn G (p ∷ q ∷ r ∷ []) (tower p q r) → sheet.SheetDue book (p ∷ q ∷ r ∷ []) (accepted (3 ∷ all_settings G (p ∷ q ∷ r ∷ []) ∷ []))
sound p q r drawn =
    (sheet_tree book (p ∷ q ∷ r ∷ []) (3 ∷ all_settings G (p ∷ q ∷ r ∷ []) ∷ [])).1
    (record { sound = λ f a. book_free f.0 f.1 a; some = omega arith; few = omega arith; tree = tower p q r; drawn = drawn }, refl)

-- a sheet of such a tree, with ten settings; what the walk by the tables tells of it
module _ (p q r : ℕ) (drawn : Drawn G (p ∷ q ∷ r ∷ []) (tower p q r)) (settings : all_settings G (p ∷ q ∷ r ∷ []) ≡ 10) (nodes groups : List ℕ) (count : ℕ)
    (told : places G (tables_of left) (tower p q r) (started G (tables_of left) (tower p q r)) ≡ nodes) (nine : length nodes ≡ 9)
    (numbers : (group_numbers G (tables_of left) (tower p q r)).list ≡ groups) (ten : length groups ≡ 10) (next : (group_numbers G (tables_of left) (tower p q r)).next ≡ count) where
  abbrev l : List ℕ
  l = p ∷ q ∷ r ∷ []

  abbrev lent : Lent
  lent = record { nodes = replicate (length nodes) 0; groups = replicate (length groups) 0 }

  pub grouped_so : Claim (grouped l (3 ∷ 10 ∷ count ∷ []) nodes groups)
  grouped_so m made due =
      subst (λ t. CallDue book l (tables_of t) lent (accepted (3 ∷ 10 ∷ count ∷ [])) (record { nodes = nodes; groups = groups })) (left_only m made due) (
        no_row figure_built (taken_whole figure_built) (sound p q r drawn) (omega (arith, nine, length-replicate {A = ℕ} (length nodes) 0))
            (omega (arith, settings, ten, length-replicate {A = ℕ} (length groups) 0)),
        record {
          of = record { tree = tower p q r; kinded = drawn.kinded; reads = refl };
          nodes = rw nine (sym (append-nil (places G (tables_of left) (tower p q r) (started G (tables_of left) (tower p q r))) ∙ told));
          groups = rw (settings, ten) (sym (append-nil (group_numbers G (tables_of left) (tower p q r)).list ∙ numbers));
          counted = rw (settings, next) refl;
        },
      )
