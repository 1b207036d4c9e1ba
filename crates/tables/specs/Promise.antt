-- What the build promises: refusals 1 to 13, and all lent memory.
use Rattle.std.specs.Prelude.{◌≡◌, ◌⊎◌, ◌↔◌, ℕ, ◌*◌, ◌≤◌, ◌<◌, ltb, length, get_or, drop, replicate}
use mathlib.Core.List.{List, [], ◌∷◌, Memᴰ}
use Rattle.lists.specs.Pick.{pick}
use Rattle.lists.specs.Rising.{Rising}
use Rattle.lists.specs.Refusals.{Said, accepted, refused, First}
use Rattle.chains.specs.Limits.{max_members}
use Rattle.chains.specs.Grammar.{Grammar}
use Rattle.chains.specs.Plausible.{Plausible}
use Rattle.chains.specs.Feasible.{Feasible}
use Rattle.book.specs.Format.{kinds, grammar}
use Rattle.bookcheck.specs.Refusals as book
use Rattle.ranks.specs.Entries.{up_start, down_start, entry_bytes}
use Rattle.tables.specs.Sets.{Over, Holds}
use Rattle.tables.specs.Entries.{UpTable, DownTable}

-- all memory that is lent to a build
pub record Lent : Type 0 where
  pub plausible : List ℕ
  pub plausible_counts : List ℕ
  pub feasible : List ℕ
  pub feasible_counts : List ℕ
  pub up : List ℕ
  pub down : List ℕ

-- the numbers of entries, from the counts of the plausible sets and of the feasible ones
abbrev pub up_entries : Grammar → List ℕ → ℕ
up_entries G c = up_start G c G.prods

abbrev pub down_entries : Grammar → List ℕ → List ℕ → ℕ
down_entries G c d = down_start G c d G.prods

-- c has the number of what has P, for each of the first n kinds
abbrev pub Counted : ℕ → (ℕ → ℕ → Type 0) → List ℕ → Type 0
Counted n P c = (k : ℕ) → k < n → (l : List ℕ) × Rising l × ((x : ℕ) → Memᴰ x l ↔ P k x) × (length l ≡ get_or c k 0)

-- Applies b m n p: refusal n of a build has its condition met at the place p
pub data Applies (b : List ℕ) (m : Lent) : ℕ → ℕ → Type 0 where
  of_book : {n p : ℕ} → book.Applies b n p → Applies b m n p
  short_slice : (length m.plausible < kinds b * max_members) ⊎ (length m.plausible_counts < kinds b)
      ⊎ (length m.feasible < kinds b * max_members) ⊎ (length m.feasible_counts < kinds b) → Applies b m 9 0
  over_plausible : Over (kinds b) (Plausible (grammar b)) → Applies b m 10 0
  over_feasible : Over (kinds b) (Feasible (grammar b)) → Applies b m 11 0
  short_up : (c : List ℕ) → Counted (kinds b) (Plausible (grammar b)) c → length m.up < up_entries (grammar b) c → Applies b m 12 0
  short_down : (c d : List ℕ) → Counted (kinds b) (Plausible (grammar b)) c → Counted (kinds b) (Feasible (grammar b)) d
      → length m.down < down_entries (grammar b) c d * entry_bytes → Applies b m 13 0

-- after 1 to 9 all memory is as it came; after 10 to 13 all of it is zero
abbrev pub zeros : List ℕ → List ℕ
zeros l = replicate (length l) 0

abbrev pub wiped : Lent → Lent
wiped m = record {
  plausible = zeros m.plausible;
  plausible_counts = zeros m.plausible_counts;
  feasible = zeros m.feasible;
  feasible_counts = zeros m.feasible_counts;
  up = zeros m.up;
  down = zeros m.down;
}

abbrev pub left_by : ℕ → Lent → Lent
left_by n m = pick (ltb n 10) m (wiped m)

-- the first n places may be written; beyond them now is as before
pub record Written (n : ℕ) (before now : List ℕ) : Type 0 where
  pub long : length now ≡ length before
  pub beyond : drop n now ≡ drop n before

-- an accepted build: the sets, the tables and the numbers of their entries
pub record Built (G : Grammar) (m m' : Lent) (counts : List ℕ) : Type 0 where
  pub plausible : Holds G.kinds (Plausible G) m.plausible m.plausible_counts m'.plausible m'.plausible_counts
  pub feasible : Holds G.kinds (Feasible G) m.feasible m.feasible_counts m'.feasible m'.feasible_counts
  pub up : UpTable G m'.plausible m'.plausible_counts m'.up
  pub up_rest : Written (up_entries G m'.plausible_counts) m.up m'.up
  pub down : DownTable G m'.plausible m'.plausible_counts m'.feasible m'.feasible_counts m'.down
  pub down_rest : Written (down_entries G m'.plausible_counts m'.feasible_counts * entry_bytes) m.down m'.down
  pub counted : counts ≡ up_entries G m'.plausible_counts ∷ down_entries G m'.plausible_counts m'.feasible_counts ∷ []
  pub up_fits : up_entries G m'.plausible_counts ≤ length m.up
  pub down_fits : down_entries G m'.plausible_counts m'.feasible_counts * entry_bytes ≤ length m.down

-- THE PROMISE of a build: what it says, and what it leaves of the memory m
abbrev pub BuildDue : List ℕ → Lent → Said → Lent → Type 0
BuildDue b m (accepted counts) m' = ((n p : ℕ) → Applies b m n p → ⊥) × Built (grammar b) m m' counts
BuildDue b m (refused n p) m' = First book.turn (λ f. Applies b m f.0 f.1) (n, p) × (m' ≡ left_by n m)
