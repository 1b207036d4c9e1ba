-- DEMAND 2, the groups: equal numbers are chains.
use mathlib.Core.Path.{◌≡◌, sym, ◌∙◌, subst}
use mathlib.Core.List.{List, [], ◌∷◌}
use Prim.Native.Nat.{ℕ, ◌*◌, ◌<◌}
use lib.ListN.{length, get_or, drop}
use Rattle.lists.specs.Refusals.{accepted}
use Rattle.lists.proofs.Carries.{Carries, carries_whole}
use Rattle.chains.specs.Grammar.{Occ, Grammar, Lawful}
use Rattle.chains.specs.Tree.{Bush, size, flat, Kinded, Sub}
use Rattle.chains.specs.Chain.{RootChains, NodeChains}
use Rattle.chains.specs.Grouping.{Says}
use Rattle.chains.specs.Choice.{ChosenUp, ChosenDown}
use Rattle.chains.specs.Numbering.{Told, Numbered}
use Rattle.chains.proofs.WellKinded.{sub_kinded}
use Rattle.chains.proofs.Read.{one_forest}
use Rattle.chains.proofs.Entries.{subtree_says, whole_says}
use Rattle.chains.proofs.Walk.{numbers_exact, numbers_used}
use Rattle.book.specs.Format.{grammar}
use Rattle.sheet.specs.Reading.{all_settings}
use Rattle.members.specs.Sets.{member}
use Rattle.tables.specs.Promise as tables
use Rattle.numbering.specs.Walk.{Tables, places, started, group_numbers}
use Rattle.numbering.specs.Places.{plausible_rank, feasible_rank, down_entry_of, number_of}
use Rattle.numbering.specs.Promise as numbering
use Rattle.numbering.proofs.Listed.{label_of}
use Rattle.numbering.proofs.InOrder.{next_at, next_last, walk_numbered}
use Rattle.claims.specs.Build.{LeftBy}
use Rattle.claims.specs.Groups.{GroupsAreChains}
use Rattle.claims.proofs.Served.{Served, built_lawful, built_serves}
use Rattle.claims.proofs.Chosen.{code_of, kind_at, rise, plausible_below, feasible_below, fall, entries_told}

-- what stands in front of the slices that a call leaves
pub nodes_carried : {G : Grammar} {l : List ℕ} {T : Tables} {m m' : numbering.Lent} {counts : List ℕ} (g : numbering.Grouped G l T m m' counts)
    → Carries m'.nodes 0 (places G T g.of.tree (started G T g.of.tree))
nodes_carried {G} {l} {T} {m} g =
    subst (λ (u : List ℕ). Carries u 0 (places G T g.of.tree (started G T g.of.tree))) (sym g.nodes)
    (carries_whole (places G T g.of.tree (started G T g.of.tree)) (drop (3 * length l) m.nodes))

pub groups_carried : {G : Grammar} {l : List ℕ} {T : Tables} {m m' : numbering.Lent} {counts : List ℕ} (g : numbering.Grouped G l T m m' counts)
    → Carries m'.groups 0 (group_numbers G T g.of.tree).list
groups_carried {G} {l} {T} {m} g =
    subst (λ (u : List ℕ). Carries u 0 (group_numbers G T g.of.tree).list) (sym g.groups)
    (carries_whole (group_numbers G T g.of.tree).list (drop (all_settings G l) m.groups))

-- a sheet has one tree
pub one_tree_of : {G : Grammar} {l : List ℕ} (t u : numbering.TreeOf G l) → t.tree ≡ u.tree
one_tree_of {G} t u = one_forest G (G.start ∷ []) t.tree u.tree t.kinded u.kinded (t.reads ∙ sym u.reads)

-- ── one accepted call, by tables that serve its grammar ──
module _ {G : Grammar} (L : Lawful G) (m : tables.Lent) {T : Tables} (served : Served G m.plausible m.feasible T) (taken : LeftBy G m T) {l : List ℕ} {n n' : numbering.Lent} {counts : List ℕ}
    (g : numbering.Grouped G l T n n' counts) where
  abbrev tree : Bush
  tree = g.of.tree

  abbrev kinded : Kinded G tree (G.start ∷ [])
  kinded = g.of.kinded

  abbrev like : ℕ → Occ → Occ → Type 0
  like i o o' = label_of G T (down_entry_of n'.nodes i) o ≡ label_of G T (down_entry_of n'.nodes i) o'

  abbrev plausible_code : ℕ → ℕ
  plausible_code = code_of G m.plausible (flat tree) (plausible_rank n'.nodes)

  abbrev feasible_code : ℕ → ℕ
  feasible_code = code_of G m.feasible (flat tree) (feasible_rank n'.nodes)

  chosen_up : ChosenUp G tree 0 plausible_code
  chosen_up = rise L served tree kinded n'.nodes (nodes_carried g)

  chosen_down : ChosenDown G tree plausible_code feasible_code
  chosen_down = fall L served tree kinded n'.nodes (nodes_carried g)

  told : Told G tree like
  told = entries_told L served tree kinded n'.nodes (nodes_carried g)

  numbered : Numbered G tree like (number_of G l n'.groups) (next_at G T tree)
  numbered = walk_numbered G T G.start tree kinded l n'.nodes n'.groups g.of.reads (nodes_carried g) (groups_carried g)

  kind_of : (i q : ℕ) (ds : Bush) → Sub tree 0 i q ds → G.left (get_or (flat tree) i 0) ≡ G.left q
  kind_of = kind_at L served tree kinded n'.nodes (nodes_carried g)

  left_low : (i q : ℕ) (ds : Bush) → Sub tree 0 i q ds → G.left q < G.kinds
  left_low i q ds t = L.left_in q (sub_kinded G tree (G.start ∷ []) 0 i q ds kinded t).0

  its_groups : GroupsAreChains G l tree m n' counts
  its_groups = record {
    shared = numbers_exact G L G.start like (number_of G l n'.groups) (next_at G T tree) tree kinded told numbered;
    own = λ i q ds t. record {
      below = subst (λ k. plausible_rank n'.nodes i < k) (taken.plausible_counts (G.left q) (left_low i q ds t)) (plausible_below L served tree kinded n'.nodes (nodes_carried g) i q ds t);
      says = subst (λ k. Says (G.settings (G.left q)) (member m.plausible k (plausible_rank n'.nodes i)) (RootChains G q ds)) (kind_of i q ds t)
          (subtree_says G L plausible_code G.start tree kinded chosen_up i q ds t);
    };
    whole = λ i q ds t. record {
      below = subst (λ k. feasible_rank n'.nodes i < k) (taken.feasible_counts (G.left q) (left_low i q ds t)) (feasible_below L served tree kinded n'.nodes (nodes_carried g) i q ds t);
      says = subst (λ k. Says (G.settings (G.left q)) (member m.feasible k (feasible_rank n'.nodes i)) (NodeChains G tree i)) (kind_of i q ds t)
          (whole_says G L plausible_code G.start tree kinded chosen_up feasible_code chosen_down i q ds t);
    };
    groups = next_at G T tree (size tree);
    counted = rw (next_last G T tree) g.counted;
    used = numbers_used G L G.start like (number_of G l n'.groups) (next_at G T tree) tree kinded told numbered;
  }

-- THEOREM: after an accepted build of a book, every accepted sheet call by what it left tells the chains of the sheet's tree
pub groups_are_chains : {b l : List ℕ} {m₀ m : tables.Lent} {entries : List ℕ} {T : Tables} {n₀ n : numbering.Lent} {counts : List ℕ}
    → tables.BuildDue b m₀ (accepted entries) m → LeftBy (grammar b) m T → numbering.CallDue b l T n₀ (accepted counts) n
    → (t : numbering.TreeOf (grammar b) l) → GroupsAreChains (grammar b) l t.tree m n counts
groups_are_chains {b} {l} {m₀} {m} {entries} {T} {n₀} {n} {counts} build taken call t =
    subst (λ f. GroupsAreChains (grammar b) l f m n counts) (one_tree_of call.1.of t) (its_groups (built_lawful build) m (built_serves build taken) taken call.1)
