-- From the reader's outcome to the answer that is due.
use mathlib.Core.Path.{◌≡◌, refl, sym, ap, ap₂, subst, ◌∙◌}
use mathlib.Core.Logic.{◌⊎◌}
use mathlib.Core.List.{List, [], ◌∷◌}
use Prim.Native.Nat.{ℕ, ◌≤◌, ◌<◌}
use native.Mathlib.Omega.{arith}
use lib.ListN.{length, get_or, take}
use lib.Seq.{take-length}
use Rattle.std.proofs.Common.{Ok, Err}
use Rattle.lists.specs.Refusals.{refused}
use Rattle.chains.specs.Limits.{max_nodes, max_levels}
use Rattle.refusals.specs.Table.{number_of}
use Rattle.refusals.specs.declared.Refusal.{Refusal}
use Rattle.refusals.specs.declared.Refusal.TheVariants.{BadSheetSize, UnknownProduction, Misfit}
use Rattle.refusals.specs.declared.Refused.{Refused}
use Rattle.book.specs.Format.{grammar}
use Rattle.book.specs.Reading.{told}
use Rattle.bookcheck.proofs.Accepted.{told_prods, told_start}
use Rattle.sheet.specs.Answer.{said}
use Rattle.sheet.specs.Reading.{Read, begun, all_settings}
use Rattle.sheet.specs.Refusals.{SheetDue}
use Rattle.sheet.specs.Stops.{Stop}
use Rattle.sheet.specs.Trees.{Sound}
use Rattle.sheet.specs.Walk.{Standing, Walked, Finished}
use Rattle.sheet.specs.declared.Counts.{Counts}
use Rattle.sheet.proofs.Accepted.{book_accepted}
use Rattle.sheet.proofs.Refusals.{length_refused, stop_refused, read_accepted}
use Rattle.sheet.proofs.Stops.{stop_unknown, stop_left}

-- an answer that is a refusal
answered : (b l : List ℕ) (q : Refusal) {r : Refused} {p : ℕ} → r ≡ record { refusal = q; place = p } → SheetDue b l (refused (number_of q) p) → SheetDue b l (said (Err r))
answered b l q e d = subst (λ (r : Refused). SheetDue b l (said (Err r))) (sym e) d

pub refused_length : (b l : List ℕ) {r : Refused} → Sound b → r ≡ record { refusal = BadSheetSize; place = 0 } → (length l ≡ 0) ⊎ (max_nodes < length l) → SheetDue b l (said (Err r))
refused_length b l sound e h = answered b l BadSheetSize e (length_refused sound h)

module _ {b l : List ℕ} (sound : Sound b) (some : 0 < length l) (few : length l ≤ max_nodes) where
  -- ── at the end of the tree ──
  module _ {c : Counts} (h : Finished b l c) where
    stopped : (q : Refusal) {r : Refused} → r ≡ record { refusal = q; place = c.nodes } → Stop (grammar b) l (number_of q) c.nodes → SheetDue b l (said (Err r))
    stopped q e t = answered b l q e (stop_refused sound some few t)

    pub ended_unknown : {r : Refused} {p : ℕ} → r ≡ record { refusal = UnknownProduction; place = c.nodes } → c.nodes < length l → p ≡ get_or l c.nodes 0 → told b 2 ≤ p → SheetDue b l (said (Err r))
    ended_unknown e t i m = stopped UnknownProduction e (stop_unknown h.nothing_due (t, omega (arith, told_prods (book_accepted b sound))))

    pub ended_left : {r : Refused} {p : ℕ} → r ≡ record { refusal = Misfit; place = c.nodes } → c.nodes < length l → p ≡ get_or l c.nodes 0 → p < told b 2 → SheetDue b l (said (Err r))
    ended_left e t i m = stopped Misfit e (stop_left h.nothing_due t (omega (arith, told_prods (book_accepted b sound))))

    pub ended_accepted : length l ≤ c.nodes → SheetDue b l (said (Ok c))
    ended_accepted m =
        let e : c.nodes ≡ length l = omega (arith, h.standing.within) in
        let r : Read (grammar b) l (length l) [] = subst (λ n. Read (grammar b) l n []) e h.nothing_due in
        let sum : c.settings ≡ all_settings (grammar b) l = h.standing.sum ∙ ap (λ n. all_settings (grammar b) (take n l)) e ∙ ap (all_settings (grammar b)) (take-length l) in
        (ap₂ (λ n t. n ∷ t ∷ []) e sum, (read_accepted sound some few r).1)

  -- ── the tree from its root ──
  module _ {k : ℕ} (root : k ≡ told b 3) where
    begins : Read (grammar b) l 0 ((k, 1) ∷ [])
    begins = begun (ap (λ (j : ℕ). (j, 1) ∷ []) (root ∙ told_start (book_accepted b sound)))

    pub walk_finished : {c : Counts} → Walked b l 0 k max_levels (Ok c) → Finished b l c
    walk_finished w = record { standing = w.case.0; nothing_due = w.case.1 1 [] (omega arith) begins }

    pub walk_refused : {r : Refused} → Walked b l 0 k max_levels (Err r) → SheetDue b l (said (Err r))
    walk_refused w = stop_refused sound some few (w.case 1 [] (omega arith) begins)

pub first_standing : (b l : List ℕ) → Standing b l (record { nodes = 0; settings = 0 })
unfolding all_settings
first_standing b l = record { within = omega arith; sum = refl; low = omega arith }
