-- Refusals 1 to 8 of a grammar book: the rows of the paper's table, in its words.
use Rattle.std.specs.Prelude.{◌≡◌, ◌⊎◌, true, ℕ, ◌≤◌, ◌<◌, length, get_or}
use mathlib.Core.List.{List, [], ◌∷◌, Memᴰ}
use Rattle.lists.specs.Refusals.{Said, Due}
use Rattle.chains.specs.Limits.{max_kinds, max_prods, max_settings, max_kids}
use Rattle.chains.specs.Grammar.{Tie, Grammar, Exists, Target, Rises}
use Rattle.book.specs.Format.{trailer_bytes, Known, kinds, prods, start, Laid, grammar}

-- N, P or the start is outside its range
abbrev pub OutOfRange : List ℕ → Type 0
OutOfRange b = (kinds b < 1) ⊎ (max_kinds < kinds b) ⊎ (prods b < 1) ⊎ (max_prods < prods b) ⊎ (kinds b ≤ start b)

-- more than 8 settings, a mask bit at A or above, or an inherited setting of the start
abbrev pub BadKind : Grammar → ℕ → Type 0
BadKind G k = (max_settings < G.settings k)
    ⊎ ((i : ℕ) × (G.settings k ≤ i) × (G.inherits k i ≡ true))
    ⊎ ((k ≡ G.start) × ((i : ℕ) × (G.inherits k i ≡ true)))

-- left kind or child not below N, more than 4 children, or the start as a child
abbrev pub BadKids : Grammar → ℕ → Type 0
BadKids G p = (G.kinds ≤ G.left p)
    ⊎ (max_kids < length (G.kids p))
    ⊎ ((j : ℕ) × (j < length (G.kids p)) × ((G.kinds ≤ get_or (G.kids p) j 0) ⊎ (get_or (G.kids p) j 0 ≡ G.start)))

-- a pair names no occurrence, a wrong "to", or does not rise
abbrev pub BadTies : Grammar → ℕ → Type 0
BadTies G p = ((t : Tie) × Memᴰ t (G.ties p) × ((Exists G p t.0 → ⊥) ⊎ (Exists G p t.1 → ⊥) ⊎ (Target G p t.0 → ⊥)))
    ⊎ (Rises (G.ties p) → ⊥)

abbrev pub Headless : Grammar → ℕ → Type 0
Headless G k = (p : ℕ) → p < G.prods → G.left p ≡ k → ⊥

-- Applies b n p: refusal n has its condition met at the place p
pub data Applies (b : List ℕ) : ℕ → ℕ → Type 0 where
  short : length b < trailer_bytes → Applies b 1 0
  other_edition : (Known b → ⊥) → Applies b 2 0
  out_of_range : OutOfRange b → Applies b 3 0
  not_laid : (Laid b → ⊥) → Applies b 4 0
  bad_kind : (k : ℕ) → k < kinds b → BadKind (grammar b) k → Applies b 5 k
  bad_kids : (p : ℕ) → p < prods b → BadKids (grammar b) p → Applies b 6 p
  bad_ties : (p : ℕ) → p < prods b → BadTies (grammar b) p → Applies b 7 p
  headless : (k : ℕ) → k < kinds b → Headless (grammar b) k → Applies b 8 k

-- rows go by number, and each is sought over the whole book, from the first place on
abbrev pub turn : (ℕ × ℕ) → List ℕ
turn f = f.0 ∷ f.1 ∷ []

-- THE PROMISE of a book check: what it says of the book b
abbrev pub BookDue : List ℕ → Said → Type 0
BookDue b = Due turn (λ f. f.0) (λ f. f.1) (λ f. Applies b f.0 f.1) (kinds b ∷ prods b ∷ [])
