-- A tree sheet: production numbers in preorder, read from left to right against what is due.
use Rattle.std.specs.Prelude.{◌≡◌, List, [], ◌∷◌, ◌++◌, ℕ, suc, ◌+◌, ◌≤◌, ◌<◌, length, get_or}
use Rattle.chains.specs.Limits.{max_levels}
use Rattle.chains.specs.Grammar.{Grammar, Heads}

-- a node that is due: its kind, and the level where it stands
abbrev pub Node : Type 0
Node = ℕ × ℕ

-- children of the kinds ks at level v
abbrev pub due : ℕ → List ℕ → List Node
due v [] = []
due v (k ∷ ks) = (k, v) ∷ due v ks

-- the first i bytes of the sheet l stand where they are due, and ds is due after them, the first of it next
pub data Read (G : Grammar) (l : List ℕ) : ℕ → List Node → Type 0 where
  begun : {ds : List Node} → ds ≡ (G.start, 1) ∷ [] → Read G l 0 ds
  further : {i k v : ℕ} {rest ds : List Node} → Read G l i ((k, v) ∷ rest) → i < length l → Heads G (get_or l i 0) k → v ≤ max_levels
      → ds ≡ due (suc v) (G.kids (get_or l i 0)) ++ rest → Read G l (suc i) ds

-- the settings of all nodes of a sheet
unfoldable pub all_settings : Grammar → List ℕ → ℕ
all_settings G [] = 0
all_settings G (p ∷ l) = G.settings (G.left p) + all_settings G l
