-- What a call may lean on of its book and its sheet. No promise of the library cites this page.
use Rattle.std.specs.Prelude.{List, ℕ}
use Rattle.sheet.specs.Refusals.{Applies}

-- no row of their tables applies
abbrev pub Unrefused : List ℕ → List ℕ → Type 0
Unrefused b l = (f : ℕ × ℕ) → Applies b l f.0 f.1 → ⊥
