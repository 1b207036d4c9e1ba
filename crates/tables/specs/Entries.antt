-- What stands in the entries of the up and the down table.
use Rattle.std.specs.Prelude.{◌≡◌, ◌↔◌, List, [], ◌∷◌, ℕ, suc, ◌+◌, ◌*◌, ◌≤◌, ◌<◌, eqb, length, get_or, take}
use Rattle.lists.specs.Pick.{pick}
use Rattle.lists.specs.Part.{part}
use Rattle.chains.specs.Limits.{max_kids}
use Rattle.chains.specs.Grammar.{Occ, Grammar, width, Exists}
use Rattle.chains.specs.Chain.{Slotwise, Closure}
use Rattle.chains.specs.Grouping.{Says, Proper, Each}
use Rattle.chains.specs.Feasible.{Chosen}
use Rattle.book.specs.Format.{occ}
use Rattle.ranks.specs.Entries.{Ranks, up_entry, down_entry, labels, entry_bytes, none}
use Rattle.members.specs.Sets.{member}

-- the groupings that they stand for
unfoldable pub picked : List ℕ → List ℕ → List ℕ → List ℕ
picked s [] rs = []
picked s (k ∷ ks) [] = []
picked s (k ∷ ks) (r ∷ rs) = member s k r ∷ picked s ks rs

-- base and the children's groupings, joined
abbrev pub Upward : Grammar → ℕ → List ℕ → Occ → Occ → Type 0
Upward G p cs = Closure G p (Slotwise (λ a b. ⊥) (Each G (G.kids p) cs))

-- base, a grouping of the left kind and the children's, joined
abbrev pub Downward : Grammar → ℕ → ℕ → List ℕ → Occ → Occ → Type 0
Downward G p x cs = Closure G p (Chosen G p x cs)

-- the grouping at rank r of kind k's set is what R relates among the A settings of slot t
pub record Ranked (s c : List ℕ) (A k t : ℕ) (R : Occ → Occ → Type 0) (r : ℕ) : Type 0 where
  pub below : r < get_or c k 0
  pub says : Says A (member s k r) (λ a b. R (t, a) (t, b))

-- each up entry is the rank of what its production and choice give on slot 0
abbrev pub UpTable : Grammar → List ℕ → List ℕ → List ℕ → Type 0
UpTable G s c up = (p : ℕ) (rs : List ℕ) → p < G.prods → Ranks c (G.kids p) rs
    → Ranked s c (width G p 0) (G.left p) 0 (Upward G p (picked s (G.kids p) rs)) (get_or up (up_entry G c p rs) none)

-- the labels that stand in l
unfoldable pub kept : List ℕ → List ℕ
kept [] = []
kept (x ∷ l) = pick (eqb x none) (kept l) (x ∷ kept l)

-- l has the labels of production p's occurrences by first appearance, equal exactly where R relates them, and none where there is no occurrence
pub record Labelled (G : Grammar) (p : ℕ) (R : Occ → Occ → Type 0) (l : List ℕ) : Type 0 where
  pub long : length l ≡ labels
  pub present : (o : ℕ) → o < labels → Exists G p (occ o) → get_or l o none < none
  pub absent : (o : ℕ) → o < labels → (Exists G p (occ o) → ⊥) → get_or l o none ≡ none
  pub first : Proper 0 (kept l)
  pub same : (o o' : ℕ) → o < labels → o' < labels → Exists G p (occ o) → Exists G p (occ o') → (get_or l o none ≡ get_or l o' none) ↔ R (occ o) (occ o')

-- a down entry: the labels of what R relates, then for each child the rank of what R relates there among the feasible groupings f of its kind, counted by d
pub record DownEntry (G : Grammar) (p : ℕ) (f d : List ℕ) (R : Occ → Occ → Type 0) (l : List ℕ) : Type 0 where
  pub blocks : Labelled G p R (take labels l)
  pub ranks : (j : ℕ) → j < length (G.kids p) → Ranked f d (width G p (suc j)) (get_or (G.kids p) j 0) (suc j) R (get_or l (labels + j) none)
  pub rest : (j : ℕ) → length (G.kids p) ≤ j → j < max_kids → get_or l (labels + j) none ≡ none

abbrev pub DownTable : Grammar → List ℕ → List ℕ → List ℕ → List ℕ → List ℕ → Type 0
DownTable G s c f d down = (p u : ℕ) (rs : List ℕ) → p < G.prods → u < get_or d (G.left p) 0 → Ranks c (G.kids p) rs
    → DownEntry G p f d (Downward G p (member f (G.left p) u) (picked s (G.kids p) rs)) (part (down_entry G c d p u rs * entry_bytes) entry_bytes down)
