-- The check, row by row: from what each search found to what is due.
use mathlib.Core.Path.{◌≡◌, ◌∙◌}
use mathlib.Core.Logic.{inl}
use mathlib.Core.List.{List, [], ◌∷◌}
use Prim.Native.Nat.{ℕ, ◌≤◌, ◌<◌}
use native.Mathlib.Decide.{dec_lt}
use native.Mathlib.Omega.{arith}
use Rattle.lists.specs.Refusals.{accepted, refused}
use Rattle.lists.specs.Sought.{Free}
use Rattle.chains.specs.Limits.{max_kinds}
use Rattle.book.specs.Format.{kinds, prods, left_at, entry, Laid, grammar}
use Rattle.bookcheck.specs.Refusals.{BadKind, BadKids, BadTies, Headless, BookDue}
use Rattle.bookcheck.specs.Search.{Finds, Opened, Markable}
use Rattle.bookcheck.proofs.Laying.{few_kinds}
use Rattle.bookcheck.proofs.Rows.{due_5, due_6, due_7, due_8, due_accepted}

-- a search that ran to its end
pub free_all : {P : ℕ → Type 0} {n m k : ℕ} → n ≡ m → Finds P n k → n ≤ k → Free P m
free_all e f l i h = f.passed i (omega arith)

module _ {b : List ℕ} {n m first : ℕ} (o : Opened b n m first) where
  laid : Laid b
  laid = o.told.laid

  pub refuse_5 : {k : ℕ} → Finds (BadKind (grammar b)) n k → k < n → BookDue b (refused 5 k)
  refuse_5 {k} f l = due_5 b laid.whole o.known o.in_range laid k (omega (arith, o.told.kinds_told)) (f.has l) f.passed

  pub clear_5 : {k : ℕ} → Finds (BadKind (grammar b)) n k → n ≤ k → Free (BadKind (grammar b)) (kinds b)
  clear_5 f l = free_all o.told.kinds_told f l

  pub clear_6 : {p : ℕ} → Finds (BadKids (grammar b)) m p → m ≤ p → Free (BadKids (grammar b)) (prods b)
  clear_6 f l = free_all o.prods_told f l

  pub clear_7 : {p : ℕ} → Finds (BadTies (grammar b)) m p → m ≤ p → Free (BadTies (grammar b)) (prods b)
  clear_7 f l = free_all o.prods_told f l

  pub clear_8 : {k : ℕ} → Finds (Headless (grammar b)) n k → n ≤ k → Free (Headless (grammar b)) (kinds b)
  clear_8 f l = free_all o.told.kinds_told f l

  pub few : n ≤ max_kinds
  few = omega (arith, o.told.kinds_told, few_kinds b o.in_range)

  module _ (h5 : Free (BadKind (grammar b)) (kinds b)) where
    pub refuse_6 : {p : ℕ} → Finds (BadKids (grammar b)) m p → p < m → BookDue b (refused 6 p)
    refuse_6 {p} f l = due_6 b laid.whole o.known o.in_range laid h5 p (omega (arith, o.prods_told)) (f.has l) f.passed

  module _ (h6 : Free (BadKids (grammar b)) (prods b)) where
    pub markable : Markable b m
    markable = record {
      laid = laid;
      prods_told = o.prods_told;
      low = λ p l. elim (dec_lt (left_at b (entry b p)) (kinds b)) [ yes h ↦ omega (arith, few_kinds b o.in_range) | no h ↦ absurd (h6 p l (inl (omega arith))) ];
    }

  module _ (h5 : Free (BadKind (grammar b)) (kinds b)) (h6 : Free (BadKids (grammar b)) (prods b)) where
    pub refuse_7 : {p : ℕ} → Finds (BadTies (grammar b)) m p → p < m → BookDue b (refused 7 p)
    refuse_7 {p} f l = due_7 b laid.whole o.known o.in_range laid h5 h6 p (omega (arith, o.prods_told)) (f.has l) f.passed

    module _ (h7 : Free (BadTies (grammar b)) (prods b)) where
      pub refuse_8 : {k : ℕ} → Finds (Headless (grammar b)) n k → k < n → BookDue b (refused 8 k)
      refuse_8 {k} f l = due_8 b laid.whole o.known o.in_range laid h5 h6 h7 k (omega (arith, o.told.kinds_told)) (f.has l) f.passed

      pub accept : {x y : ℕ} → x ≡ n → y ≡ m → Free (Headless (grammar b)) (kinds b) → BookDue b (accepted (x ∷ y ∷ []))
      accept ex ey h8 = let ok = due_accepted b laid.whole o.known o.in_range laid h5 h6 h7 h8 in rw (ex ∙ o.told.kinds_told, ey ∙ o.prods_told) ok
