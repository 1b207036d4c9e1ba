-- The build as it goes on, from an accepted book. No promise of the library cites this page.
use Rattle.std.specs.Prelude.{◌≡◌, List, [], ◌∷◌, ℕ, ◌*◌, ◌≤◌, ◌<◌, length}
use Rattle.lists.specs.Refusals.{Said, accepted, refused, First}
use Rattle.chains.specs.Grammar.{Grammar}
use Rattle.chains.specs.Plausible.{Plausible}
use Rattle.chains.specs.Feasible.{Feasible}
use Rattle.book.specs.Format.{kinds, grammar}
use Rattle.bookcheck.specs.Refusals as rows
use Rattle.bookcheck.specs.Accepted.{Accepted}
use Rattle.members.specs.Room.{TooShort, Roomy}
use Rattle.ranks.specs.Entries.{entry_bytes}
use Rattle.ranks.specs.Room.{Exceeds}
use Rattle.tables.specs.Sets.{Over, Holds}
use Rattle.tables.specs.Entries.{UpTable, DownTable}
use Rattle.tables.specs.Promise.{Lent, up_entries, down_entries, Applies, Written, Built}
use Rattle.tables.specs.Sweep.{Exact}

-- ── room ──
-- the memory m has too few places for the sets of the book b
abbrev pub Lacking : List ℕ → Lent → Type 0
Lacking b m = TooShort (kinds b) (length m.plausible) (length m.plausible_counts) (length m.feasible) (length m.feasible_counts)

-- ── the book is accepted, and the lent memory m is roomy enough for the sets ──
pub record Ready (b : List ℕ) (m : Lent) : Type 0 where
  pub book : Accepted b
  pub clean : (n p : ℕ) → rows.Applies b n p → ⊥
  pub room : Roomy (kinds b) (length m.plausible) (length m.plausible_counts) (length m.feasible) (length m.feasible_counts)

-- what the passes leave of the sets and counts s c f d, and what they say
pub data Passed (b s c f d s' c' f' d' : List ℕ) : Said → Type 0 where
  over_plausible : Over (kinds b) (Plausible (grammar b)) → Passed b s c f d s' c' f' d' (refused 10 0)
  over_feasible : Holds (kinds b) (Plausible (grammar b)) s c s' c' → Over (kinds b) (Feasible (grammar b)) → Passed b s c f d s' c' f' d' (refused 11 0)
  both_hold : Holds (kinds b) (Plausible (grammar b)) s c s' c' → Holds (kinds b) (Feasible (grammar b)) f d f' d' → Passed b s c f d s' c' f' d' (accepted [])

-- both sets hold what they are to hold
pub record Settled (b s c f d : List ℕ) : Type 0 where
  pub plausible : Exact (kinds b) (Plausible (grammar b)) s c
  pub feasible : Exact (kinds b) (Feasible (grammar b)) f d

-- ── the tables ──
-- both are written
pub record Tables (G : Grammar) (s c f d u w u' w' counts : List ℕ) : Type 0 where
  pub counted : counts ≡ up_entries G c ∷ down_entries G c d ∷ []
  pub up_fits : up_entries G c ≤ length u
  pub down_fits : down_entries G c d * entry_bytes ≤ length w
  pub up : UpTable G s c u'
  pub up_rest : Written (up_entries G c) u u'
  pub down : DownTable G s c f d w'
  pub down_rest : Written (down_entries G c d * entry_bytes) w w'

abbrev pub TablesDue : (G : Grammar) (s c f d u w : List ℕ) → Said → (u' w' : List ℕ) → Type 0
TablesDue G s c f d u w (accepted counts) u' w' = Tables G s c f d u w u' w' counts
TablesDue G s c f d u w (refused n p) u' w' = Exceeds (length u) (length w) (up_entries G c) (down_entries G c d) n p

pub record Tabled (G : Grammar) (s c f d u w : List ℕ) (a : Said) (u' w' : List ℕ) : Type 0 where
  pub due : TablesDue G s c f d u w a u' w'

-- ── the whole, before a refusal's memory is wiped ──
abbrev pub WorkDue : List ℕ → Lent → Said → Lent → Type 0
WorkDue b m (accepted counts) m' = ((n p : ℕ) → Applies b m n p → ⊥) × Built (grammar b) m m' counts
WorkDue b m (refused n p) m' = First rows.turn (λ f. Applies b m f.0 f.1) (n, p) × (9 < n)

pub record Worked (b : List ℕ) (m : Lent) (a : Said) (m' : Lent) : Type 0 where
  pub due : WorkDue b m a m'
