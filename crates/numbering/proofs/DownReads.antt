-- The downward reads: what is read at a node, and from the first node to the last.
use mathlib.Core.Path.{◌≡◌, refl, sym, ap, ap₂, subst, ◌∙◌}
use mathlib.Core.Logic.{◌⊎◌, inl, inr}
use mathlib.Core.Bool.{Bool, true, false}
use mathlib.Core.List.{List, [], ◌∷◌}
use Prim.Native.Nat.{ℕ, suc, ◌+◌, ◌*◌, ◌≤◌, ◌<◌}
use native.Mathlib.Nat.{add_assoc}
use native.Mathlib.Decide.{ℕ_discrete}
use native.Mathlib.Numerals.{add-one}
use native.Mathlib.Omega.{arith}
use lib.ListN.{length, get_or, drop, set, length-set}
use lib.Seq.{get_or-take, get_or-drop, get_or-set_same, get_or-set_other}
use Rattle.std.specs.Prelude.{Option, Some, None, Ok, Err}
use Rattle.refusals.specs.Table.{number_of}
use Rattle.refusals.specs.declared.Refused.{Refused}
use Rattle.refusals.specs.declared.Refusal.TheVariants.{BadTables}
use Rattle.chains.specs.Limits.{max_kids, max_nodes}
use Rattle.chains.specs.Tree.{Bush, Kinded, Root, Sub}
use Rattle.chains.proofs.Range.{root_in}
use Rattle.chains.proofs.Nodes.{parent}
use Rattle.chains.proofs.WellKinded.{sub_kinded, root_kids, one_tree}
use Rattle.ranks.specs.Entries.{down_entry, labels, entry_bytes, none}
use Rattle.ranks.specs.Reads.{down_number, DownFinds, child_rank_at}
use Rattle.ranks.specs.Padded.{CountsPadded}
use Rattle.ranks.proofs.Padded.{down_number_is}
use Rattle.numbering.specs.Walk.{Tables, ranks, given}
use Rattle.numbering.specs.Promise.{BadDown, entry_at}
use Rattle.numbering.specs.Visits.{entry_in, visit}
use Rattle.numbering.specs.Nodes.{plausible_ranks, feasible_ranks, subtree_ends, down_entries, SameUpward}
use Rattle.numbering.specs.Parts.{grammar_in, tables_in, TreeIn, down_start_in, child_at, Children, Kindred, Ended, Ranked, HandedDown, RightRank, DownNodeIs, DownNodeRead, NoBadDown, DownReads}
use Rattle.numbering.specs.declared.call.Call.{Call}
use Rattle.numbering.specs.declared.nodes.Node.{Node}
use Rattle.numbering.proofs.Keeping.{unread, feasible_at, only_none, entries_long, entries_set, feasible_same, upward_more, upward_set}
use Rattle.numbering.proofs.Calls.{few_nodes, few_kids}
use Rattle.numbering.proofs.Journey.{visited, child_visited, entry_visited}
use Rattle.numbering.proofs.Standing.{stands, child_root, children_of, ended_below, ranked_below, kin_long, kin_padded}
use Rattle.numbering.proofs.Trees.{tree_size, byte_is, node_at}

-- a child's rank is read where the walk has it
pub rank_read : (T : Tables) (e j : ℕ) → j < max_kids → child_rank_at T.down e j ≡ given T e j
rank_read T e j h =
    get_or-take entry_bytes (drop (e * entry_bytes) T.down) (labels + j) none (omega arith)
    ∙ get_or-drop (e * entry_bytes) T.down (labels + j) none
    ∙ ap (λ m. get_or T.down m none) (sym (add_assoc (e * entry_bytes) labels j))

-- ── at a node ──
-- node i of production p is read, whose entries begin at start, by its own feasible rank f and its children's counts ns and ranks rs
pub record DownAsked (x : Call) (nodes : List Node) (i p start f : ℕ) (ns rs : List ℕ) : Type 0 where
  pub known : p < (grammar_in x).prods
  pub begins : start ≡ down_start_in x p
  pub padded : CountsPadded max_kids x.tables.plausible_counts.now ((grammar_in x).kids p) ns
  pub end : ℕ
  pub kin : Kindred (plausible_ranks nodes) (subtree_ends nodes) i (length ((grammar_in x).kids p)) rs end
  pub own : f ≡ (get_or nodes i unread).feasible.0

pub asked : {x : Call} {nodes : List Node} {i p start : ℕ} {ns rs : List ℕ} {end : ℕ} → p < (grammar_in x).prods → start ≡ down_start_in x p
    → CountsPadded max_kids x.tables.plausible_counts.now ((grammar_in x).kids p) ns
    → Kindred (plausible_ranks nodes) (subtree_ends nodes) i (length ((grammar_in x).kids p)) rs end → DownAsked x nodes i p start (get_or nodes i unread).feasible.0 ns rs
asked known begins padded kin = record { known = known; begins = begins; padded = padded; end = _; kin = kin; own = refl }

module _ {x : Call} {nodes : List Node} {i p start f : ℕ} {ns rs : List ℕ} (a : DownAsked x nodes i p start f ns rs) where
  few : length ((grammar_in x).kids p) ≤ max_kids
  few = few_kids x a.known

  -- the entry asked for is the one that the walk has
  module _ (t : TreeIn x) (ds : Bush) (s : Sub t.tree 0 i p ds) (ended : Ended t.tree 0 0 (subtree_ends nodes))
      (ranked : Ranked (grammar_in x) (tables_in x) t.tree 0 0 (plausible_ranks nodes)) where
    kinded : Kinded (grammar_in x) ds ((grammar_in x).kids p)
    kinded = (sub_kinded (grammar_in x) t.tree ((grammar_in x).start ∷ []) 0 i p ds t.kinded s).1

    ended_kin : Ended ds (suc i) 0 (subtree_ends nodes)
    ended_kin = ended_below t.tree ds i p 0 (subtree_ends nodes) s (omega arith) ended

    entry_is : RightRank (grammar_in x) (tables_in x) t.tree (feasible_ranks nodes) i
        → down_number start ns f rs ≡ entry_in (grammar_in x) (tables_in x) (visit (grammar_in x) (tables_in x) t.tree i)
    entry_is right =
        let G = grammar_in x in
        let T = tables_in x in
        let ra = ranked_below G T t.tree ds i p 0 (plausible_ranks nodes) s (omega arith) ranked in
        let (seen, ep, ed) = visited G T t.tree t.kinded i p ds s in
        let v = visit G T t.tree i in
        ap (λ y. down_number y ns f rs) a.begins
        ∙ down_number_is G a.padded (kin_long G T ds (G.kids p) (plausible_ranks nodes) (subtree_ends nodes) i kinded ended_kin ra)
        (kin_padded G T ds (G.kids p) (plausible_ranks nodes) (subtree_ends nodes) i kinded ended_kin ra a.kin) T.feasible_counts f
        ∙ ap (λ y. down_entry G T.plausible_counts T.feasible_counts p y (ranks G T ds)) (a.own ∙ sym (feasible_at nodes i) ∙ right)
        ∙ ap₂ (λ q es. down_entry G T.plausible_counts T.feasible_counts q v.feasible (ranks G T es)) (sym ep) (sym ed)

    -- the children's ranks are those that the walk gives them
    kin_rank : (e : ℕ) → e ≡ entry_in (grammar_in x) (tables_in x) (visit (grammar_in x) (tables_in x) t.tree i) → (j : ℕ) → j < length ((grammar_in x).kids p)
        → (visit (grammar_in x) (tables_in x) t.tree (child_at (subtree_ends nodes) i j)).feasible ≡ child_rank_at x.tables.down.now e j
    kin_rank e ee j h =
        let r = child_root (subtree_ends nodes) i ds ended_kin (grammar_in x) ((grammar_in x).kids p) kinded j h in
        (child_visited (grammar_in x) (tables_in x) t.tree t.kinded i p ds j (child_at (subtree_ends nodes) i j) s r).0
        ∙ ap (λ y. given (tables_in x) y j) (sym ee) ∙ sym (rank_read (tables_in x) e j (omega (arith, few)))

  pub read_none : {r : Option ℕ} → DownFinds x.tables.down.now (down_number start ns f rs) r → r ≡ None → DownNodeRead x i p nodes nodes None
  read_none h e =
      let past : DownFinds x.tables.down.now (down_number start ns f rs) None = subst (DownFinds x.tables.down.now (down_number start ns f rs)) e h in
      record {
        only = only_none nodes;
        case = λ t ds s en ra ri.
            let q = entry_is t ds s en ra ri in
            let y : length x.tables.down.now < (entry_in (grammar_in x) (tables_in x) (visit (grammar_in x) (tables_in x) t.tree i) + 1) * entry_bytes = rw (← q) past in
            inl (rw (add-one (entry_in (grammar_in x) (tables_in x) (visit (grammar_in x) (tables_in x) t.tree i))) at y);
      }

  module _ {r : Option ℕ} {e : ℕ} (h : DownFinds x.tables.down.now (down_number start ns f rs) r) (er : r ≡ Some e) where
    found : DownFinds x.tables.down.now (down_number start ns f rs) (Some e)
    found = subst (DownFinds x.tables.down.now (down_number start ns f rs)) er h

    pub read_high : {nodes' : List Node} {o : Bool} → HandedDown x i p e nodes nodes' o → o ≡ false → DownNodeRead x i p nodes nodes' None
    read_high {nodes'} {o} g eo =
        let g' : HandedDown x i p e nodes nodes' false = subst (HandedDown x i p e nodes nodes') eo g in
        record {
          only = g'.only;
          case = λ t ds s en ra ri.
              let q : e ≡ entry_in (grammar_in x) (tables_in x) (visit (grammar_in x) (tables_in x) t.tree i) = found.1 ∙ entry_is t ds s en ra ri in
              let (j, lj, hj) = g'.case in
              let hj' : get_or x.tables.feasible_counts.now (get_or ((grammar_in x).kids p) j 0) 0 ≤ given (tables_in x) e j
              = rw (← rank_read (tables_in x) e j (omega (arith, few))) hj in
              subst (λ y. BadDown (grammar_in x) (tables_in x) p y) q (inr (j, lj, hj'));
        }

    pub read_good : {nodes' : List Node} {o : Bool} → HandedDown x i p e nodes nodes' o → o ≡ true → DownNodeRead x i p nodes nodes' (Some e)
    read_good {nodes'} {o} g eo =
        let g' : HandedDown x i p e nodes nodes' true = subst (HandedDown x i p e nodes nodes') eo g in
        record {
          only = g'.only;
          case = λ t ds s en ra ri.
              let q : e ≡ entry_in (grammar_in x) (tables_in x) (visit (grammar_in x) (tables_in x) t.tree i) = found.1 ∙ entry_is t ds s en ra ri in
              let (low, gave) = g'.case in
              let (still, got) = gave (λ m. (visit (grammar_in x) (tables_in x) t.tree m).feasible) (kin_rank t ds s en ra e q) in
              (q, λ bad. good low (subst (λ y. BadDown (grammar_in x) (tables_in x) p y) (sym q) bad), still, got);
        }
      where
        good : ((j : ℕ) → j < length ((grammar_in x).kids p) → child_rank_at x.tables.down.now e j < get_or x.tables.feasible_counts.now (get_or ((grammar_in x).kids p) j 0) 0)
            → BadDown (grammar_in x) (tables_in x) p e → ⊥
        good low (inl y) = let z : (e + 1) * entry_bytes ≤ length x.tables.down.now = rw found.1 found.0 in omega arith
        good low (inr (j, lj, y)) = omega (arith, low j lj, rank_read (tables_in x) e j (omega (arith, few)))

-- ── from the first node to the last ──
-- nodes before i have been read; nodes₀ are they as they were at first
pub record DownGoing (x : Call) (nodes₀ nodes : List Node) (i : ℕ) : Type 0 where
  pub long : length nodes ≡ max_nodes
  pub upward : SameUpward nodes₀ nodes
  pub read_so_far : (t : TreeIn x) → Ended t.tree 0 0 (subtree_ends nodes₀) → Ranked (grammar_in x) (tables_in x) t.tree 0 0 (plausible_ranks nodes₀)
      → RightRank (grammar_in x) (tables_in x) t.tree (feasible_ranks nodes₀) 0
      → NoBadDown (grammar_in x) (tables_in x) t.tree i × RightRank (grammar_in x) (tables_in x) t.tree (feasible_ranks nodes) 0
      × ((a q : ℕ) (ds : Bush) (j m : ℕ) → Sub t.tree 0 a q ds → a < i → Root ds (suc a) j m → RightRank (grammar_in x) (tables_in x) t.tree (feasible_ranks nodes) m)
      × ((a : ℕ) → a < i → get_or (down_entries nodes) a 0 ≡ entry_in (grammar_in x) (tables_in x) (visit (grammar_in x) (tables_in x) t.tree a))

pub going_none : {x : Call} {nodes : List Node} → length nodes ≡ max_nodes → DownGoing x nodes nodes 0
going_none {nodes = nodes} l = record {
  long = l;
  upward = (only_none nodes).upward;
  read_so_far = λ t en ra ri. (λ i q ds s k. absurd (omega arith), ri, λ a q ds j m s k. absurd (omega arith), λ a k. absurd (omega arith));
}

module _ {x : Call} {nodes₀ nodes : List Node} {i : ℕ} (g : DownGoing x nodes₀ nodes i) where
  -- a node whose parent has been read has its rank
  right_rank : (t : TreeIn x) → RightRank (grammar_in x) (tables_in x) t.tree (feasible_ranks nodes) 0
      → ((a q : ℕ) (ds : Bush) (j m : ℕ) → Sub t.tree 0 a q ds → a < i → Root ds (suc a) j m → RightRank (grammar_in x) (tables_in x) t.tree (feasible_ranks nodes) m)
      → (m : ℕ) → m < length x.sheet.now → m ≤ i → RightRank (grammar_in x) (tables_in x) t.tree (feasible_ranks nodes) m
  right_rank t first below m h k =
      let n = node_at t m h in
      go (parent t.tree 0 m (get_or x.sheet.now m 0) n.below n.is_node)
    where
      go : ((j : ℕ) × Root t.tree 0 j m) ⊎ ((a : ℕ) × (p : ℕ) × (cs : Bush) × (j : ℕ) × Sub t.tree 0 a p cs × Root cs (suc a) j m)
          → RightRank (grammar_in x) (tables_in x) t.tree (feasible_ranks nodes) m
      go (inl (j, r)) =
          let z : m ≡ 0 = (one_tree (grammar_in x) t.tree (grammar_in x).start 0 j m t.kinded r).1 in
          rw z first
      go (inr (a, p, cs, j, z, r)) = below a p cs j m z (omega (arith, (root_in cs (suc a) j m r).0)) r

  pub going_children : (t : TreeIn x) → Ended t.tree 0 0 (subtree_ends nodes₀) → i < length x.sheet.now
      → Children (subtree_ends nodes) i (length ((grammar_in x).kids (get_or x.sheet.now i 0)))
  going_children t en₀ more =
      let n = node_at t i more in
      let en : Ended t.tree 0 0 (subtree_ends nodes) = subst (Ended t.tree 0 0) (sym g.upward.ends) en₀ in
      children_of (subtree_ends nodes) i n.below (ended_below t.tree n.below i (get_or x.sheet.now i 0) 0 (subtree_ends nodes) n.is_node (omega arith) en) (grammar_in x)
      ((grammar_in x).kids (get_or x.sheet.now i 0)) n.kinded (few_kids x n.known) (omega (arith, n.inside, few_nodes x))

  module _ (more : i < length x.sheet.now) {nodes' : List Node} {r : Option ℕ} (f : DownNodeRead x i (get_or x.sheet.now i 0) nodes nodes' r) where
    here : (t : TreeIn x) → Ended t.tree 0 0 (subtree_ends nodes₀) → Ranked (grammar_in x) (tables_in x) t.tree 0 0 (plausible_ranks nodes₀)
        → RightRank (grammar_in x) (tables_in x) t.tree (feasible_ranks nodes₀) 0
        → DownNodeIs (grammar_in x) (tables_in x) t.tree i (get_or x.sheet.now i 0) (subtree_ends nodes) (feasible_ranks nodes) (feasible_ranks nodes') r
    here t en ra ri =
        let n = node_at t i more in
        let (bad, first, below, told) = g.read_so_far t en ra ri in
        f.case t n.below n.is_node (subst (Ended t.tree 0 0) (sym g.upward.ends) en)
        (subst (λ (s : List ℕ). Ranked (grammar_in x) (tables_in x) t.tree 0 0 s) (sym g.upward.plausible) ra) (right_rank t first below i more (omega arith))

    entry_here : (t : TreeIn x) → entry_at (grammar_in x) (tables_in x) t.tree i ≡ entry_in (grammar_in x) (tables_in x) (visit (grammar_in x) (tables_in x) t.tree i)
    entry_here t = entry_visited (grammar_in x) (tables_in x) t.tree t.kinded i (omega (arith, tree_size t))

    pub going_bad : r ≡ None → (z : Refused) → z ≡ record { refusal = BadTables; place = i } → DownReads x nodes₀ nodes' (Err z)
    going_bad e z ez = record {
      upward = upward_more g.upward f.only.upward;
      case = λ t en ra ri.
          let n = node_at t i more in
          let bad : BadDown (grammar_in x) (tables_in x) (get_or x.sheet.now i 0) (entry_in (grammar_in x) (tables_in x) (visit (grammar_in x) (tables_in x) t.tree i))
          = subst (DownNodeIs (grammar_in x) (tables_in x) t.tree i (get_or x.sheet.now i 0) (subtree_ends nodes) (feasible_ranks nodes) (feasible_ranks nodes')) e (here t en ra ri) in
          let bad_at : BadDown (grammar_in x) (tables_in x) (get_or x.sheet.now i 0) (entry_at (grammar_in x) (tables_in x) t.tree i)
          = subst (λ y. BadDown (grammar_in x) (tables_in x) (get_or x.sheet.now i 0) y) (sym (entry_here t)) bad in (
            ap (λ (y : Refused). number_of y.refusal) ez,
            subst (λ (m : ℕ). (q : ℕ) × (ds : Bush) × Sub t.tree 0 m q ds × BadDown (grammar_in x) (tables_in x) q (entry_at (grammar_in x) (tables_in x) t.tree m)) (sym place_is)
                (get_or x.sheet.now i 0, n.below, n.is_node, bad_at),
            subst (NoBadDown (grammar_in x) (tables_in x) t.tree) (sym place_is) (g.read_so_far t en ra ri).0,
          );
    }
      where
        place_is : z.place ≡ i
        place_is = ap (λ (y : Refused). y.place) ez

    pub going_turn : {e : ℕ} → r ≡ Some e → (n : Node) → n.entry ≡ e → n.plausible.0 ≡ (get_or nodes' i unread).plausible.0
        → n.feasible.0 ≡ (get_or nodes' i unread).feasible.0 → n.end ≡ (get_or nodes' i unread).end → length nodes' ≡ max_nodes → DownGoing x nodes₀ (set nodes' i n) (i + 1)
    going_turn {e} er n ee ep ef eend el = record {
      long = length-set nodes' i n ∙ el;
      upward = upward_more (upward_more g.upward f.only.upward) (upward_set nodes' i n ep eend);
      read_so_far = λ t en ra ri.
          let (bad, first, below, told) = g.read_so_far t en ra ri in
          let (q, good, still_right, got) = subst (DownNodeIs (grammar_in x) (tables_in x) t.tree i (get_or x.sheet.now i 0) (subtree_ends nodes) (feasible_ranks nodes) (feasible_ranks nodes')) er (here t en ra ri) in
          let last = λ (m : ℕ) (h : RightRank (grammar_in x) (tables_in x) t.tree (feasible_ranks nodes') m). ap (λ (s : List ℕ). get_or s m 0) (feasible_same nodes' i n ef) ∙ h in (
            λ m p' ds z k. still t bad good m p' ds z k (ℕ_discrete m i),
            last 0 (still_right 0 first),
            λ a p' ds j m z k o. last m (ranked t en still_right got below a p' ds j m z k o (ℕ_discrete a i)),
            λ a k. ap (λ (s : List ℕ). get_or s a 0) (entries_set nodes' i n) ∙ entered t q told a k (ℕ_discrete a i),
          );
    }
      where
        still : (t : TreeIn x) → NoBadDown (grammar_in x) (tables_in x) t.tree i
            → (BadDown (grammar_in x) (tables_in x) (get_or x.sheet.now i 0) (entry_in (grammar_in x) (tables_in x) (visit (grammar_in x) (tables_in x) t.tree i)) → ⊥)
            → (m q : ℕ) (ds : Bush) → Sub t.tree 0 m q ds → m < i + 1 → Dec (m ≡ i) → BadDown (grammar_in x) (tables_in x) q (entry_at (grammar_in x) (tables_in x) t.tree m) → ⊥
        still t bad good m q ds z k (no y) h = bad m q ds z (omega arith) h
        still t bad good m q ds z k (yes y) h =
            let eq : q ≡ get_or x.sheet.now i 0 = byte_is t m q ds z ∙ ap (λ v. get_or x.sheet.now v 0) y in
            let ee = ap (entry_at (grammar_in x) (tables_in x) t.tree) y ∙ entry_here t in
            good (subst (λ v. BadDown (grammar_in x) (tables_in x) v (entry_in (grammar_in x) (tables_in x) (visit (grammar_in x) (tables_in x) t.tree i))) eq (subst (λ v. BadDown (grammar_in x) (tables_in x) q v) ee h))

        ranked : (t : TreeIn x) → Ended t.tree 0 0 (subtree_ends nodes₀)
            → ((m : ℕ) → RightRank (grammar_in x) (tables_in x) t.tree (feasible_ranks nodes) m → RightRank (grammar_in x) (tables_in x) t.tree (feasible_ranks nodes') m)
            → ((j : ℕ) → j < length ((grammar_in x).kids (get_or x.sheet.now i 0)) → RightRank (grammar_in x) (tables_in x) t.tree (feasible_ranks nodes') (child_at (subtree_ends nodes) i j))
            → ((a q : ℕ) (ds : Bush) (j m : ℕ) → Sub t.tree 0 a q ds → a < i → Root ds (suc a) j m → RightRank (grammar_in x) (tables_in x) t.tree (feasible_ranks nodes) m)
            → (a q : ℕ) (ds : Bush) (j m : ℕ) → Sub t.tree 0 a q ds → a < i + 1 → Root ds (suc a) j m → Dec (a ≡ i) → RightRank (grammar_in x) (tables_in x) t.tree (feasible_ranks nodes') m
        ranked t en still_right got below a q ds j m z k o (no y) = still_right m (below a q ds j m z (omega arith) o)
        ranked t en still_right got below a q ds j m z k o (yes y) =
            let eq : q ≡ get_or x.sheet.now i 0 = byte_is t a q ds z ∙ ap (λ v. get_or x.sheet.now v 0) y in
            let z' : Sub t.tree 0 i q ds = subst (λ v. Sub t.tree 0 v q ds) y z in
            let o' : Root ds (suc i) j m = subst (λ v. Root ds (suc v) j m) y o in
            let kd = (sub_kinded (grammar_in x) t.tree ((grammar_in x).start ∷ []) 0 i q ds t.kinded z').1 in
            let en' : Ended t.tree 0 0 (subtree_ends nodes) = subst (Ended t.tree 0 0) (sym g.upward.ends) en in
            let st : child_at (subtree_ends nodes) i j ≡ m = stands (subtree_ends nodes) i ds (ended_below t.tree ds i q 0 (subtree_ends nodes) z' (omega arith) en') j m o' in
            let lj : j < length ((grammar_in x).kids (get_or x.sheet.now i 0)) = rw (← eq) (root_kids (grammar_in x) ds ((grammar_in x).kids q) (suc i) j m kd o') in
            subst (λ v. RightRank (grammar_in x) (tables_in x) t.tree (feasible_ranks nodes') v) st (got j lj)

        entered : (t : TreeIn x) → e ≡ entry_in (grammar_in x) (tables_in x) (visit (grammar_in x) (tables_in x) t.tree i)
            → ((a : ℕ) → a < i → get_or (down_entries nodes) a 0 ≡ entry_in (grammar_in x) (tables_in x) (visit (grammar_in x) (tables_in x) t.tree a))
            → (a : ℕ) → a < i + 1 → Dec (a ≡ i) → get_or (set (down_entries nodes') i n.entry) a 0 ≡ entry_in (grammar_in x) (tables_in x) (visit (grammar_in x) (tables_in x) t.tree a)
        entered t q told a k (no y) = get_or-set_other (down_entries nodes') i a n.entry 0 y ∙ ap (λ (s : List ℕ). get_or s a 0) f.only.entries ∙ told a (omega arith)
        entered t q told a k (yes y) =
            ap (λ z. get_or (set (down_entries nodes') i n.entry) z 0) y
            ∙ get_or-set_same (down_entries nodes') i n.entry 0 (omega (arith, few_nodes x, entries_long nodes', el)) ∙ ee ∙ q
            ∙ ap (λ z. entry_in (grammar_in x) (tables_in x) (visit (grammar_in x) (tables_in x) t.tree z)) (sym y)

  pub going_done : length x.sheet.now ≤ i → DownReads x nodes₀ nodes (Ok (tt {0}))
  going_done h = record {
    upward = g.upward;
    case = λ t en ra ri.
        let (bad, first, below, told) = g.read_so_far t en ra ri in (
          λ m q ds z k. bad m q ds z (omega (arith, tree_size t)),
          λ m k. right_rank t first below m (omega (arith, tree_size t)) (omega (arith, tree_size t)),
          λ m k. told m (omega (arith, tree_size t)),
        );
  }
