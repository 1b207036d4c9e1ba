-- What is known of the nodes, each field read off as a list. No promise of the library cites this page.
use Rattle.std.specs.Prelude.{◌≡◌, List, ℕ, map}
use Rattle.numbering.specs.declared.nodes.Node.{Node}

unfoldable pub plausible_ranks : List Node → List ℕ
plausible_ranks nodes = map (λ (n : Node). n.plausible.0) nodes

unfoldable pub feasible_ranks : List Node → List ℕ
feasible_ranks nodes = map (λ (n : Node). n.feasible.0) nodes

unfoldable pub subtree_ends : List Node → List ℕ
subtree_ends nodes = map (λ (n : Node). n.end) nodes

unfoldable pub first_settings : List Node → List ℕ
first_settings nodes = map (λ (n : Node). n.first_setting) nodes

unfoldable pub down_entries : List Node → List ℕ
down_entries nodes = map (λ (n : Node). n.entry) nodes

-- what the upward reads left is as it was
pub record SameUpward (nodes nodes' : List Node) : Type 0 where
  pub plausible : plausible_ranks nodes' ≡ plausible_ranks nodes
  pub ends : subtree_ends nodes' ≡ subtree_ends nodes

-- no more than feasible ranks has changed
pub record OnlyFeasible (nodes nodes' : List Node) : Type 0 where
  pub upward : SameUpward nodes nodes'
  pub entries : down_entries nodes' ≡ down_entries nodes

-- where subtrees end and the down entries are as before; the places of settings need not be
pub record OnlyPlaces (nodes nodes' : List Node) : Type 0 where
  pub ends : subtree_ends nodes' ≡ subtree_ends nodes
  pub entries : down_entries nodes' ≡ down_entries nodes
