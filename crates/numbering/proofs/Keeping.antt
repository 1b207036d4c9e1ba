-- The nodes' fields as lists: what a write to a node does to each.
use Rattle.std.proofs.Common.{◌≡◌, List, ℕ, length, get_or, refl, ◌∙◌}
use Rattle.std.proofs.Math.ListN.{set, get_or-map, length-map}
use Rattle.std.proofs.lemmas.List.{map-set}
use Rattle.std.proofs.Math.Seq.{map-set_same}
use Rattle.numbering.specs.Nodes.{plausible_ranks, feasible_ranks, subtree_ends, first_settings, down_entries, SameUpward, OnlyFeasible, OnlyPlaces}
use Rattle.numbering.specs.declared.nodes.Node.{Node}

-- a node before it is read
abbrev pub unread : Node
unread = record { plausible = record { 0 = 0 }; feasible = record { 0 = 0 }; end = 0; first_setting = 0; entry = 0 }

module _ (nodes : List Node) where
  -- ── what is read ──
  module _ (i : ℕ) where
    pub plausible_at : get_or (plausible_ranks nodes) i 0 ≡ (get_or nodes i unread).plausible.0
    unfolding plausible_ranks
    plausible_at = get_or-map (λ (n : Node). n.plausible.0) nodes i unread

    pub feasible_at : get_or (feasible_ranks nodes) i 0 ≡ (get_or nodes i unread).feasible.0
    unfolding feasible_ranks
    feasible_at = get_or-map (λ (n : Node). n.feasible.0) nodes i unread

    pub end_at : get_or (subtree_ends nodes) i 0 ≡ (get_or nodes i unread).end
    unfolding subtree_ends
    end_at = get_or-map (λ (n : Node). n.end) nodes i unread

    pub first_at : get_or (first_settings nodes) i 0 ≡ (get_or nodes i unread).first_setting
    unfolding first_settings
    first_at = get_or-map (λ (n : Node). n.first_setting) nodes i unread

    pub entry_at : get_or (down_entries nodes) i 0 ≡ (get_or nodes i unread).entry
    unfolding down_entries
    entry_at = get_or-map (λ (n : Node). n.entry) nodes i unread

  -- ── their lengths ──
  pub plausible_long : length (plausible_ranks nodes) ≡ length nodes
  unfolding plausible_ranks
  plausible_long = length-map nodes (λ (n : Node). n.plausible.0)

  pub feasible_long : length (feasible_ranks nodes) ≡ length nodes
  unfolding feasible_ranks
  feasible_long = length-map nodes (λ (n : Node). n.feasible.0)

  pub ends_long : length (subtree_ends nodes) ≡ length nodes
  unfolding subtree_ends
  ends_long = length-map nodes (λ (n : Node). n.end)

  pub firsts_long : length (first_settings nodes) ≡ length nodes
  unfolding first_settings
  firsts_long = length-map nodes (λ (n : Node). n.first_setting)

  pub entries_long : length (down_entries nodes) ≡ length nodes
  unfolding down_entries
  entries_long = length-map nodes (λ (n : Node). n.entry)

  -- ── a write: the field is set, or as it was where the new node has it from the old one ──
  module _ (i : ℕ) (n : Node) where
    pub plausible_set : plausible_ranks (set nodes i n) ≡ set (plausible_ranks nodes) i n.plausible.0
    unfolding plausible_ranks
    plausible_set = map-set (λ (m : Node). m.plausible.0) nodes i n

    pub feasible_set : feasible_ranks (set nodes i n) ≡ set (feasible_ranks nodes) i n.feasible.0
    unfolding feasible_ranks
    feasible_set = map-set (λ (m : Node). m.feasible.0) nodes i n

    pub ends_set : subtree_ends (set nodes i n) ≡ set (subtree_ends nodes) i n.end
    unfolding subtree_ends
    ends_set = map-set (λ (m : Node). m.end) nodes i n

    pub firsts_set : first_settings (set nodes i n) ≡ set (first_settings nodes) i n.first_setting
    unfolding first_settings
    firsts_set = map-set (λ (m : Node). m.first_setting) nodes i n

    pub entries_set : down_entries (set nodes i n) ≡ set (down_entries nodes) i n.entry
    unfolding down_entries
    entries_set = map-set (λ (m : Node). m.entry) nodes i n

    pub plausible_same : n.plausible.0 ≡ (get_or nodes i unread).plausible.0 → plausible_ranks (set nodes i n) ≡ plausible_ranks nodes
    unfolding plausible_ranks
    plausible_same e = map-set_same (λ (m : Node). m.plausible.0) nodes i n unread e

    pub feasible_same : n.feasible.0 ≡ (get_or nodes i unread).feasible.0 → feasible_ranks (set nodes i n) ≡ feasible_ranks nodes
    unfolding feasible_ranks
    feasible_same e = map-set_same (λ (m : Node). m.feasible.0) nodes i n unread e

    pub ends_same : n.end ≡ (get_or nodes i unread).end → subtree_ends (set nodes i n) ≡ subtree_ends nodes
    unfolding subtree_ends
    ends_same e = map-set_same (λ (m : Node). m.end) nodes i n unread e

    pub entries_same : n.entry ≡ (get_or nodes i unread).entry → down_entries (set nodes i n) ≡ down_entries nodes
    unfolding down_entries
    entries_same e = map-set_same (λ (m : Node). m.entry) nodes i n unread e

-- ── what stays ──
pub only_none : (nodes : List Node) → OnlyFeasible nodes nodes
only_none nodes = record { upward = record { plausible = refl; ends = refl }; entries = refl }

pub upward_set : (nodes : List Node) (i : ℕ) (n : Node) → n.plausible.0 ≡ (get_or nodes i unread).plausible.0 → n.end ≡ (get_or nodes i unread).end
    → SameUpward nodes (set nodes i n)
upward_set nodes i n ep ee = record { plausible = plausible_same nodes i n ep; ends = ends_same nodes i n ee }

pub only_set : (nodes : List Node) (i : ℕ) (n : Node) → n.plausible.0 ≡ (get_or nodes i unread).plausible.0 → n.end ≡ (get_or nodes i unread).end
    → n.entry ≡ (get_or nodes i unread).entry → OnlyFeasible nodes (set nodes i n)
only_set nodes i n ep ee et = record { upward = upward_set nodes i n ep ee; entries = entries_same nodes i n et }

pub upward_more : {nodes nodes' nodes'' : List Node} → SameUpward nodes nodes' → SameUpward nodes' nodes'' → SameUpward nodes nodes''
upward_more a b = record { plausible = b.plausible ∙ a.plausible; ends = b.ends ∙ a.ends }

pub only_more : {nodes nodes' nodes'' : List Node} → OnlyFeasible nodes nodes' → OnlyFeasible nodes' nodes'' → OnlyFeasible nodes nodes''
only_more a b = record { upward = upward_more a.upward b.upward; entries = b.entries ∙ a.entries }

pub places_none : (nodes : List Node) → OnlyPlaces nodes nodes
places_none nodes = record { ends = refl; entries = refl }

pub places_set : (nodes : List Node) (i : ℕ) (n : Node) → n.end ≡ (get_or nodes i unread).end → n.entry ≡ (get_or nodes i unread).entry → OnlyPlaces nodes (set nodes i n)
places_set nodes i n ee et = record { ends = ends_same nodes i n ee; entries = entries_same nodes i n et }

pub places_more : {nodes nodes' nodes'' : List Node} → OnlyPlaces nodes nodes' → OnlyPlaces nodes' nodes'' → OnlyPlaces nodes nodes''
places_more a b = record { ends = b.ends ∙ a.ends; entries = b.entries ∙ a.entries }
