-- What the admission leaves to the call: its refusals, or a sheet that fits its book and its room. No promise of the library cites this page.
use Rattle.std.specs.Prelude.{List, ℕ, ◌*◌, ◌≤◌, length}
use Rattle.lists.specs.Refusals.{First}
use Rattle.book.specs.Format.{kinds, grammar}
use Rattle.sheet.specs.Reading.{all_settings}
use Rattle.sheet.specs.Trees.{Fits}
use Rattle.admission.specs.declared.Lengths.{Lengths}
use Rattle.admission.specs.Refusals as admission
use Rattle.numbering.specs.Walk.{Tables}
use Rattle.numbering.specs.Promise.{Lent, Applies, Fault, turn}

-- the lengths that are measured
abbrev pub measures : Tables → Lent → Lengths
measures T m = admission.lengths (length T.plausible_counts) (length T.feasible_counts) (length m.nodes) (length m.groups)

-- none of the refusals before 25 applies, and what that says
pub record Clear (b l : List ℕ) (T : Tables) (m : Lent) : Type 0 where
  pub none : (n p : ℕ) → admission.Applies b l (measures T m) n p → ⊥
  pub fits : Fits b l
  pub plausible_counts : kinds b ≤ length T.plausible_counts
  pub feasible_counts : kinds b ≤ length T.feasible_counts
  pub nodes : 3 * length l ≤ length m.nodes
  pub groups : all_settings (grammar b) l ≤ length m.groups

-- refusal n at the place p is due
abbrev pub Refuses : List ℕ → List ℕ → Tables → Lent → ℕ → ℕ → Type 0
Refuses b l T m n p = (t : ℕ) × First turn (λ (f : Fault). Applies b l T m f.0 f.1 f.2) (n, p, t)
