-- The law of refusals: of the conditions of a table, the one that applies first.
use Rattle.std.specs.Prelude.{◌≡◌, ◌⊎◌, List, [], ◌∷◌, ℕ, ◌<◌}

-- what a call says: accepted, with its counts; or refused, with number and place
pub data Said : Type 0 where
  accepted : List ℕ → Said
  refused : ℕ → ℕ → Said

-- the order of turns: by the first number in which they differ
abbrev pub Sooner : List ℕ → List ℕ → Type 0
Sooner [] m = ⊥
Sooner (x ∷ l) [] = ⊥
Sooner (x ∷ l) (y ∷ m) = (x < y) ⊎ ((x ≡ y) × Sooner l m)

-- k applies, and nothing whose turn comes sooner does
abbrev pub First : {K : Type 0} → (K → List ℕ) → (K → Type 0) → K → Type 0
First {K} turn Applies k = Applies k × ((j : K) → Sooner (turn j) (turn k) → Applies j → ⊥)

-- what is due by a table: its counts where nothing applies, else the number and place of what applies first
abbrev pub Due : {K : Type 0} → (K → List ℕ) → (K → ℕ) → (K → ℕ) → (K → Type 0) → List ℕ → Said → Type 0
Due {K} turn number place Applies counts (accepted cs) = (cs ≡ counts) × ((k : K) → Applies k → ⊥)
Due {K} turn number place Applies counts (refused n p) = (k : K) × (number k ≡ n) × (place k ≡ p) × First turn Applies k
