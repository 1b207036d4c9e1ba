-- Where the reading of a sheet stops, and with which number. The reader's own functions speak in these words; no promise cites them.
use Rattle.std.specs.Prelude.{◌≡◌, ◌⊎◌, List, [], ◌∷◌, ℕ, ◌≤◌, ◌<◌, length, get_or}
use Rattle.chains.specs.Limits.{max_levels}
use Rattle.chains.specs.Grammar.{Grammar}
use Rattle.sheet.specs.Reading.{Node, Read}

module _ (G : Grammar) (l : List ℕ) (i : ℕ) where
  abbrev pub Unknown : Type 0
  Unknown = (i < length l) × (G.prods ≤ get_or l i 0)

  -- byte i is not what is due: left over, missing, or of another kind
  abbrev pub Unfit : List Node → Type 0
  Unfit [] = i < length l
  Unfit (d ∷ ds) = (length l ≡ i) ⊎ ((i < length l) × (G.left (get_or l i 0) ≡ d.0 → ⊥))

  abbrev pub Deep : List Node → Type 0
  Deep [] = ⊥
  Deep (d ∷ ds) = (i < length l) × (max_levels < d.1)

-- at i, where ds is due, refusal n has its condition met
pub data Fault (G : Grammar) (l : List ℕ) (i : ℕ) (ds : List Node) : ℕ → Type 0 where
  unknown : Unknown G l i → Fault G l i ds 21
  unfit : Unfit G l i ds → Fault G l i ds 22
  deep : Deep G l i ds → Fault G l i ds 23

-- reading stops at i with n: all before i was as due, and n is the first number that applies there
pub record Stop (G : Grammar) (l : List ℕ) (n i : ℕ) : Type 0 where
  pub awaited : List Node
  pub was_due : Read G l i awaited
  pub fault : Fault G l i awaited n
  pub lowest : (m : ℕ) → m < n → Fault G l i awaited m → ⊥
