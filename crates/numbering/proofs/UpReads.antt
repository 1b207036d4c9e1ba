-- The upward reads: what is read at a node, and from the last node to the first.
use mathlib.Core.Path.{◌≡◌, sym, ap, subst, ◌∙◌}
use mathlib.Core.Logic.{inl, inr}
use mathlib.Core.List.{List}
use Prim.Native.Nat.{ℕ, suc, ◌+◌, ◌-◌, ◌≤◌, ◌<◌}
use native.Mathlib.Decide.{ℕ_discrete}
use native.Mathlib.Omega.{arith}
use lib.ListN.{length, get_or, set, length-set}
use lib.Seq.{get_or-set_same, get_or-set_other}
use Rattle.std.specs.Prelude.{Option, Some, None, Ok, Err}
use Rattle.refusals.specs.Table.{number_of}
use Rattle.refusals.specs.declared.Refused.{Refused}
use Rattle.refusals.specs.declared.Refusal.TheVariants.{BadTables}
use Rattle.chains.specs.Limits.{max_kids, max_nodes}
use Rattle.chains.specs.Tree.{Bush, size, Sub}
use Rattle.chains.proofs.Nodes.{sub_in, sub_one}
use Rattle.ranks.specs.Entries.{up_entry, none}
use Rattle.ranks.specs.Reads.{up_number}
use Rattle.ranks.specs.declared.Plausible.{Plausible}
use Rattle.ranks.specs.Padded.{CountsPadded}
use Rattle.ranks.proofs.Padded.{up_number_is}
use Rattle.numbering.specs.Walk.{ranks}
use Rattle.numbering.specs.Promise.{BadUp}
use Rattle.numbering.specs.Visits.{rank_of}
use Rattle.numbering.specs.Nodes.{plausible_ranks, subtree_ends}
use Rattle.numbering.specs.Parts.{grammar_in, tables_in, TreeIn, up_start_in, Children, Kindred, Ended, Ranked, NoBadUp, UpNodeIs, UpReads}
use Rattle.numbering.specs.declared.call.Call.{Call}
use Rattle.numbering.specs.declared.nodes.Node.{Node}
use Rattle.numbering.proofs.Keeping.{plausible_long, ends_long, plausible_set, ends_set}
use Rattle.numbering.proofs.Calls.{tree_in, few_nodes, few_kids}
use Rattle.numbering.proofs.Standing.{children_of, ended_below, ranked_below, kin_long, kin_padded, kin_end}
use Rattle.numbering.proofs.Trees.{tree_size, node_at}
use Rattle.numbering.proofs.Trees as trees

-- nodes from i on have been read
pub record UpGoing (x : Call) (nodes : List Node) (i : ℕ) : Type 0 where
  pub within : i ≤ length x.sheet.now
  pub long : length nodes ≡ max_nodes
  pub read_so_far : (t : TreeIn x) → NoBadUp (grammar_in x) (tables_in x) t.tree i
      × Ranked (grammar_in x) (tables_in x) t.tree 0 i (plausible_ranks nodes) × Ended t.tree 0 i (subtree_ends nodes)

pub going_none : (x : Call) {nodes : List Node} → length nodes ≡ max_nodes → UpGoing x nodes (length x.sheet.now)
going_none x l = record {
  within = omega arith;
  long = l;
  read_so_far = λ t. (λ i q ds s k. absurd (beyond t i q ds s k), λ i q ds s k. absurd (beyond t i q ds s k), λ i q ds s k. absurd (beyond t i q ds s k));
}
  where
    beyond : (t : TreeIn x) (i q : ℕ) (ds : Bush) → Sub t.tree 0 i q ds → length x.sheet.now ≤ i → ⊥
    beyond t i q ds s k = omega (arith, (sub_in t.tree 0 i q ds s).0.1, tree_size t)

pub going_done : {x : Call} {nodes : List Node} {i : ℕ} → UpGoing x nodes i → i ≤ 0 → UpReads x nodes (Ok (tt {0}))
going_done g h = record {
  case = λ t.
      let so_far = g.read_so_far t in
      (λ m q ds s k. so_far.0 m q ds s (omega arith), λ m q ds s k. so_far.1 m q ds s (omega arith), λ m q ds s k. so_far.2 m q ds s (omega arith));
}

-- the node before
module _ {x : Call} {nodes : List Node} {i : ℕ} (g : UpGoing x nodes i) (some : 0 < i) where
  there : i - 1 < length x.sheet.now
  there = omega (arith, g.within)

  pub going_inside : i - 1 < max_nodes
  going_inside = omega (arith, g.within, few_nodes x)

  node : (t : TreeIn x) → trees.Node t (i - 1)
  node t = node_at t (i - 1) there

  ended : (t : TreeIn x) → Ended (node t).below (suc (i - 1)) 0 (subtree_ends nodes)
  ended t = ended_below t.tree (node t).below (i - 1) (get_or x.sheet.now (i - 1) 0) i (subtree_ends nodes) (node t).is_node (omega arith) (g.read_so_far t).2

  pub going_known : get_or x.sheet.now (i - 1) 0 < (grammar_in x).prods
  going_known = (node (tree_in x)).known

  pub going_children : Children (subtree_ends nodes) (i - 1) (length ((grammar_in x).kids (get_or x.sheet.now (i - 1) 0)))
  going_children =
      let n = node (tree_in x) in
      children_of (subtree_ends nodes) (i - 1) n.below (ended (tree_in x)) (grammar_in x) ((grammar_in x).kids (get_or x.sheet.now (i - 1) 0)) n.kinded
      (few_kids x n.known) (omega (arith, n.inside, few_nodes x))

  -- what is read there
  module _ {start : ℕ} {ns rs : List ℕ} {end : ℕ} (begins : start ≡ up_start_in x (get_or x.sheet.now (i - 1) 0))
      (padded : CountsPadded max_kids x.tables.plausible_counts.now ((grammar_in x).kids (get_or x.sheet.now (i - 1) 0)) ns)
      (kin : Kindred (plausible_ranks nodes) (subtree_ends nodes) (i - 1) (length ((grammar_in x).kids (get_or x.sheet.now (i - 1) 0))) rs end) where
    module _ (t : TreeIn x) where
      ranked : Ranked (grammar_in x) (tables_in x) (node t).below (suc (i - 1)) 0 (plausible_ranks nodes)
      ranked = ranked_below (grammar_in x) (tables_in x) t.tree (node t).below (i - 1) (get_or x.sheet.now (i - 1) 0) i (plausible_ranks nodes) (node t).is_node (omega arith) (g.read_so_far t).1

      entry_is : up_number start ns rs ≡ up_entry (grammar_in x) x.tables.plausible_counts.now (get_or x.sheet.now (i - 1) 0) (ranks (grammar_in x) (tables_in x) (node t).below)
      entry_is =
          let ks = (grammar_in x).kids (get_or x.sheet.now (i - 1) 0) in
          ap (λ s. up_number s ns rs) begins
          ∙ up_number_is (grammar_in x) padded (kin_long (grammar_in x) (tables_in x) (node t).below ks (plausible_ranks nodes) (subtree_ends nodes) (i - 1) (node t).kinded (ended t) ranked)
          (kin_padded (grammar_in x) (tables_in x) (node t).below ks (plausible_ranks nodes) (subtree_ends nodes) (i - 1) (node t).kinded (ended t) ranked kin)

      end_is : end ≡ suc (i - 1 + size (node t).below)
      end_is =
          kin_end (grammar_in x) (tables_in x) (node t).below ((grammar_in x).kids (get_or x.sheet.now (i - 1) 0)) (plausible_ranks nodes) (subtree_ends nodes) (i - 1) (node t).kinded (ended t) ranked kin

      bad : UpNodeIs x (get_or x.sheet.now (i - 1) 0) (up_number start ns rs) None → BadUp (grammar_in x) (tables_in x) (get_or x.sheet.now (i - 1) 0) (node t).below
      bad (inl h) = inl (rw entry_is at h)
      bad (inr h) = inr (rw entry_is at h)

      module _ {rank : Plausible} (found : UpNodeIs x (get_or x.sheet.now (i - 1) 0) (up_number start ns rs) (Some rank)) where
        fine : BadUp (grammar_in x) (tables_in x) (get_or x.sheet.now (i - 1) 0) (node t).below → ⊥
        fine (inl h) = omega (arith, found.0, entry_is)
        fine (inr h) = omega (arith, found.2, found.1, ap (λ e. get_or x.tables.up.now e none) entry_is)

        rank_is : rank.0 ≡ rank_of (grammar_in x) (tables_in x) (get_or x.sheet.now (i - 1) 0) (node t).below
        rank_is = found.1 ∙ ap (λ e. get_or x.tables.up.now e none) entry_is

    pub going_bad : {r : Option Plausible} → UpNodeIs x (get_or x.sheet.now (i - 1) 0) (up_number start ns rs) r → r ≡ None → (z : Refused) → z ≡ record { refusal = BadTables; place = i - 1 } → UpReads x nodes (Err z)
    going_bad read e z ez = record {
      case = λ t.
          let c = subst (UpNodeIs x (get_or x.sheet.now (i - 1) 0) (up_number start ns rs)) e read in (
            ap (λ (y : Refused). number_of y.refusal) ez,
            (get_or x.sheet.now (i - 1) 0, (node t).below, subst (λ m. Sub t.tree 0 m (get_or x.sheet.now (i - 1) 0) (node t).below) (sym place_is) (node t).is_node, bad t c),
            λ m q ds s k. (g.read_so_far t).0 m q ds s (omega (arith, place_is)),
          );
    }
      where
        place_is : z.place ≡ i - 1
        place_is = ap (λ (y : Refused). y.place) ez

    pub going_end : end ≤ max_nodes
    going_end = omega (arith, end_is (tree_in x), (node (tree_in x)).inside, few_nodes x)

    pub going_turn : {r : Option Plausible} → UpNodeIs x (get_or x.sheet.now (i - 1) 0) (up_number start ns rs) r → {rank : Plausible} → r ≡ Some rank → (n : Node) → n.plausible.0 ≡ rank.0 → n.end ≡ end → UpGoing x (set nodes (i - 1) n) (i - 1)
    going_turn read {rank} e n er ee = record {
      within = omega (arith, g.within);
      long = length-set nodes (i - 1) n ∙ g.long;
      read_so_far = λ t. (
        λ m q ds s k. still t m q ds s k (ℕ_discrete m (i - 1)),
        λ m q ds s k. ap (λ (l : List ℕ). get_or l m 0) (plausible_set nodes (i - 1) n) ∙ ranked_now t m q ds s k (ℕ_discrete m (i - 1)),
        λ m q ds s k. ap (λ (l : List ℕ). get_or l m 0) (ends_set nodes (i - 1) n) ∙ ended_now t m q ds s k (ℕ_discrete m (i - 1)),
      );
    }
      where
        found : UpNodeIs x (get_or x.sheet.now (i - 1) 0) (up_number start ns rs) (Some rank)
        found = subst (UpNodeIs x (get_or x.sheet.now (i - 1) 0) (up_number start ns rs)) e read

        now : (t : TreeIn x) (m q : ℕ) (ds : Bush) → Sub t.tree 0 m q ds → m ≡ i - 1
            → (BadUp (grammar_in x) (tables_in x) q ds → ⊥) × (n.plausible.0 ≡ rank_of (grammar_in x) (tables_in x) q ds) × (n.end ≡ suc (m + size ds))
        now t m q ds s z =
            let s' : Sub t.tree 0 (i - 1) q ds = subst (λ y. Sub t.tree 0 y q ds) z s in
            let (eq, ed) = sub_one t.tree 0 (i - 1) q (get_or x.sheet.now (i - 1) 0) ds (node t).below s' (node t).is_node in
            let size_is : size ds ≡ size (node t).below = ap size ed in
            (rw (eq, ed) (fine t found), rw (eq, ed) (er ∙ rank_is t found), ee ∙ end_is t ∙ omega arith)

        still : (t : TreeIn x) (m q : ℕ) (ds : Bush) → Sub t.tree 0 m q ds → i - 1 ≤ m → Dec (m ≡ i - 1) → BadUp (grammar_in x) (tables_in x) q ds → ⊥
        still t m q ds s k (yes z) = (now t m q ds s z).0
        still t m q ds s k (no z) = (g.read_so_far t).0 m q ds s (omega arith)

        ranked_now : (t : TreeIn x) (m q : ℕ) (ds : Bush) → Sub t.tree 0 m q ds → i - 1 ≤ m → Dec (m ≡ i - 1)
            → get_or (set (plausible_ranks nodes) (i - 1) n.plausible.0) m 0 ≡ rank_of (grammar_in x) (tables_in x) q ds
        ranked_now t m q ds s k (yes z) =
            ap (λ y. get_or (set (plausible_ranks nodes) (i - 1) n.plausible.0) y 0) z
            ∙ get_or-set_same (plausible_ranks nodes) (i - 1) n.plausible.0 0 (omega (arith, going_inside, plausible_long nodes, g.long)) ∙ (now t m q ds s z).1
        ranked_now t m q ds s k (no z) = get_or-set_other (plausible_ranks nodes) (i - 1) m n.plausible.0 0 z ∙ (g.read_so_far t).1 m q ds s (omega arith)

        ended_now : (t : TreeIn x) (m q : ℕ) (ds : Bush) → Sub t.tree 0 m q ds → i - 1 ≤ m → Dec (m ≡ i - 1)
            → get_or (set (subtree_ends nodes) (i - 1) n.end) m 0 ≡ suc (m + size ds)
        ended_now t m q ds s k (yes z) =
            ap (λ y. get_or (set (subtree_ends nodes) (i - 1) n.end) y 0) z
            ∙ get_or-set_same (subtree_ends nodes) (i - 1) n.end 0 (omega (arith, going_inside, ends_long nodes, g.long)) ∙ (now t m q ds s z).2
        ended_now t m q ds s k (no z) = get_or-set_other (subtree_ends nodes) (i - 1) m n.end 0 z ∙ (g.read_so_far t).2 m q ds s (omega arith)
