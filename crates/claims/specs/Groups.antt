-- DEMAND 2, the groups: what an accepted sheet call tells of its tree, by tables that a build of its book left.
use Rattle.std.specs.Prelude.{◌≡◌, ◌↔◌, List, [], ◌∷◌, ℕ, ◌<◌, length, get_or}
use Rattle.chains.specs.Grammar.{Grammar}
use Rattle.chains.specs.Tree.{Bush, Inst, Sub, Fitted}
use Rattle.chains.specs.Chain.{Chain, RootChains, NodeChains}
use Rattle.chains.specs.Grouping.{Says}
use Rattle.sheet.specs.Reading.{all_settings}
use Rattle.members.specs.Sets.{member}
use Rattle.tables.specs.Promise as tables
use Rattle.numbering.specs.Promise as numbering
use Rattle.numbering.specs.Places.{plausible_rank, feasible_rank, number_of}

-- r is the rank, in the sets and counts of kind k, of the grouping that R makes of k's settings
pub record RankOf (G : Grammar) (sets counts : List ℕ) (k : ℕ) (R : ℕ → ℕ → Type 0) (r : ℕ) : Type 0 where
  pub below : r < get_or counts k 0
  pub says : Says (G.settings k) (member sets k r) R

-- l is the sheet, f its tree, m what the build left, n what the sheet call left, counts what it answered
pub record GroupsAreChains (G : Grammar) (l : List ℕ) (f : Bush) (m : tables.Lent) (n : numbering.Lent) (counts : List ℕ) : Type 0 where
  -- two settings, of whatever nodes, have one number exactly when a chain of dependences, in either direction, joins them
  pub shared : (x y : Inst) → Fitted G f 0 x → Fitted G f 0 y → (number_of G l n.groups x ≡ number_of G l n.groups y) ↔ Chain G f 0 x y
  -- a node's plausible rank is that of its own subtree's chains, among the node's settings
  pub own : (i q : ℕ) (ds : Bush) → Sub f 0 i q ds → RankOf G m.plausible m.plausible_counts (G.left q) (RootChains G q ds) (plausible_rank n.nodes i)
  -- its feasible rank is that of the whole tree's chains, among the node's settings
  pub whole : (i q : ℕ) (ds : Bush) → Sub f 0 i q ds → RankOf G m.feasible m.feasible_counts (G.left q) (NodeChains G f i) (feasible_rank n.nodes i)
  -- the answer has the numbers of nodes, of settings and of groups; the numbers in use are those below the number of groups
  pub groups : ℕ
  pub counted : counts ≡ length l ∷ all_settings G l ∷ groups ∷ []
  pub used : (g : ℕ) → (g < groups) ↔ ((x : Inst) × Fitted G f 0 x × (number_of G l n.groups x ≡ g))
