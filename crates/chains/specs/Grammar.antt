-- A grammar of module kinds: what is fitted under what, and which settings are worked out from which.
use Rattle.std.specs.Prelude.{◌≡◌, ◌⊎◌, Bool, true, false, List, [], ◌∷◌, ℕ, ◌≤◌, ◌<◌, length, get_or}
use Rattle.lists.specs.Refusals.{Sooner}
use Rattle.chains.specs.Limits.{max_settings, max_kids}

-- an occurrence of a setting in a production: its slot (0 the left kind, then the children), and its number there
abbrev pub Occ : Type 0
Occ = ℕ × ℕ

-- a dependence: the first is worked out from the second
abbrev pub Tie : Type 0
Tie = Occ × Occ

pub record Grammar : Type 0 where
  pub kinds : ℕ
  pub prods : ℕ
  pub start : ℕ
  pub settings : ℕ → ℕ
  pub inherits : ℕ → ℕ → Bool
  pub left : ℕ → ℕ
  pub kids : ℕ → List ℕ
  pub ties : ℕ → List Tie

-- there is a production p, and k is its left kind
abbrev pub Heads : Grammar → ℕ → ℕ → Type 0
Heads G p k = (p < G.prods) × (G.left p ≡ k)

-- the kinds of a production's slots
abbrev pub slots : Grammar → ℕ → List ℕ
slots G p = G.left p ∷ G.kids p

-- the number of settings in slot s of production p
abbrev pub width : Grammar → ℕ → ℕ → ℕ
width G p s = G.settings (get_or (slots G p) s 0)

abbrev pub Exists : Grammar → ℕ → Occ → Type 0
Exists G p o = (o.0 < length (slots G p)) × (o.1 < width G p o.0)

-- what a production can work out: a synthesized setting of its left kind, an inherited one of a child
abbrev pub Target : Grammar → ℕ → Occ → Type 0
Target G p o = ((o.0 ≡ 0) × (G.inherits (G.left p) o.1 ≡ false)) ⊎ ((0 < o.0) × (G.inherits (get_or (slots G p) o.0 0) o.1 ≡ true))

-- one of the ties names o and o' (of a list of pairs of any things)
abbrev pub Named : {X : Type 0} → List (X × X) → X → X → Type 0
Named [] o o' = ⊥
Named (t ∷ ts) o o' = ((o ≡ t.0) × (o' ≡ t.1)) ⊎ Named ts o o'

-- production p works o out from o'
abbrev pub Tied : Grammar → ℕ → Occ → Occ → Type 0
Tied G p o o' = Named (G.ties p) o o'

-- ties rise strictly: by what is worked out, then by what it is worked out from; occurrences by slot, then by setting
abbrev pub order : Tie → List ℕ
order t = t.0.0 ∷ t.0.1 ∷ t.1.0 ∷ t.1.1 ∷ []

abbrev pub Rises : List Tie → Type 0
Rises [] = Unit {0}
Rises (t ∷ []) = Unit {0}
Rises (t ∷ u ∷ ts) = Sooner (order t) (order u) × Rises (u ∷ ts)

-- what refusals 3 and 5 to 8 leave
pub record Lawful (G : Grammar) : Type 0 where
  pub start_in : G.start < G.kinds
  pub few_settings : (k : ℕ) → k < G.kinds → G.settings k ≤ max_settings
  pub masked : (k i : ℕ) → k < G.kinds → G.inherits k i ≡ true → i < G.settings k
  pub start_free : (i : ℕ) → G.inherits G.start i ≡ false
  pub left_in : (p : ℕ) → p < G.prods → G.left p < G.kinds
  pub few_kids : (p : ℕ) → p < G.prods → length (G.kids p) ≤ max_kids
  pub kids_in : (p j : ℕ) → p < G.prods → j < length (G.kids p) → get_or (G.kids p) j 0 < G.kinds
  pub start_alone : (p j : ℕ) → p < G.prods → j < length (G.kids p) → get_or (G.kids p) j 0 ≡ G.start → ⊥
  pub named : (p : ℕ) (o o' : Occ) → p < G.prods → Tied G p o o' → Exists G p o × Exists G p o' × Target G p o
  pub rises : (p : ℕ) → p < G.prods → Rises (G.ties p)
  pub headed : (k : ℕ) → k < G.kinds → (p : ℕ) × Heads G p k
