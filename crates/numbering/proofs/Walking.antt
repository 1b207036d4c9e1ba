-- The walk that numbers all settings, node by node.
use mathlib.Core.Path.{◌≡◌, refl, sym, ap, ap₂, subst, ◌∙◌}
use mathlib.Core.Logic.{◌⊎◌, inl, inr}
use mathlib.Core.List.{List, [], ◌∷◌, ◌++◌, append-nil}
use Prim.Native.Nat.{ℕ, zero, suc, ◌+◌, ◌*◌, ◌≤◌, ◌<◌}
use native.Mathlib.Decide.{dec_lt, ℕ_discrete}
use native.Mathlib.Numerals.{add-one}
use native.Mathlib.Omega.{arith}
use lib.ListN.{length, get_or, take, drop, replicate, length-replicate, get_or-replicate, get_or-eq_default, length-append, length-drop, take-append-drop}
use lib.Seq.{drop-cons, drop-length, take-suc, take-add, take_all, take-length, take_at, length-take-le}
use Rattle.std.proofs.lemmas.Slice.{drop-append-drop}
use Rattle.lists.specs.Part.{part}
use Rattle.chains.specs.Limits.{max_settings, max_nodes}
use Rattle.chains.specs.Grammar.{Grammar, width}
use Rattle.chains.specs.Tree.{Bush, flat, Root, Sub}
use Rattle.chains.proofs.Range.{root_in}
use Rattle.chains.proofs.Nodes.{parent, sub_in, sub_child}
use Rattle.chains.proofs.WellKinded.{sub_kinded, root_kids, root_kind, one_tree}
use Rattle.sheet.specs.Reading.{all_settings}
use Rattle.sheet.proofs.Reading.{settings_next}
use Rattle.numbering.specs.Walk.{numbered, slot_labels, kid_labels, own_held, root_labels, group_numbers}
use Rattle.numbering.specs.Visits.{Visit, nowhere, entry_in, handed, after, journey, visit}
use Rattle.numbering.specs.Nodes.{subtree_ends, down_entries, OnlyPlaces}
use Rattle.numbering.specs.Parts.{grammar_in, tables_in, TreeIn, child_at, Children, Ended}
use Rattle.numbering.specs.Giving.{labels_known, nobody, stamp_at, Holding, Placed, Slot, kinds_width, Written, Kinds, Ready, Instance, Entered, Walkable, Given}
use Rattle.numbering.specs.declared.call.Call.{Call}
use Rattle.numbering.specs.declared.nodes.Node.{Node}
use Rattle.numbering.specs.declared.numbers.Holder.{Holder}
use Rattle.numbering.proofs.Keeping.{unread, entry_at}
use Rattle.numbering.proofs.Calls.{few_nodes, some_nodes, few_kids, accepted_in}
use Rattle.numbering.proofs.Holders.{holding_none}
use Rattle.numbering.proofs.Visits.{owns_of, owns_append, Linked, linked_rises}
use Rattle.numbering.proofs.Journey.{journey_long, visited, child_visited, root_visited, journey_linked, groups_owns, groups_few}
use Rattle.numbering.proofs.Standing.{stands, child_root, children_of, ended_below}
use Rattle.numbering.proofs.Trees.{tree_size, byte_is, node_at, settings_inside, few_settings}
use Rattle.numbering.proofs.Trees as trees

-- ── numbers written for every node are all numbers ──
module _ (G : Grammar) (l g : List ℕ) (vs : List Visit) (long : length vs ≡ length l) (room : all_settings G l ≤ length g)
    (each : (m : ℕ) → m < length l → Written G l g m (get_or vs m nowhere).own) where
  written_front : (m : ℕ) → m ≤ length l → take (all_settings G (take m l)) g ≡ owns_of (take m vs)
  unfolding all_settings owns_of
  written_front zero h = refl
  written_front (suc m) h =
      let a = all_settings G (take m l) in
      let w = G.settings (G.left (get_or l m 0)) in
      ap (λ n. take n g) (settings_next G l m h)
      ∙ take-add a w g
      ∙ ap₂ ◌++◌ (written_front m (omega arith)) (each m h)
      ∙ ap (λ t. owns_of (take m vs) ++ t) (sym (append-nil (get_or vs m nowhere).own))
      ∙ sym (owns_append (take m vs) (get_or vs m nowhere ∷ []))
      ∙ ap owns_of (sym (take-suc vs m nowhere (omega arith)))

  written_all : g ≡ owns_of vs ++ drop (all_settings G l) g
  written_all =
      let f = written_front (length l) (omega arith) in
      let f' : take (all_settings G l) g ≡ owns_of vs = ap (λ t. take (all_settings G t) g) (sym (take-length l)) ∙ f ∙ ap owns_of (take_all (length l) vs (omega arith)) in
      sym (take-append-drop (all_settings G l) g) ∙ ap (λ t. t ++ drop (all_settings G l) g) f'

settings_few : (G : Grammar) (k : ℕ) (l : List ℕ) → ((i : ℕ) → i < length l → G.settings (G.left (get_or l i 0)) ≤ k) → all_settings G l ≤ k * length l
unfolding all_settings
settings_few G k [] h = omega arith
settings_few G k (p ∷ l) h =
    let r = settings_few G k l (λ i m. h (suc i) (omega arith)) in
    let f = h 0 (omega arith) in
    let e : k * suc (length l) ≡ k + k * length l = omega arith in
    omega arith

-- ── the loop ──
-- once the settings have their places, the rest is as it was
pub walkable_still : {x : Call} {nodes nodes' : List Node} → OnlyPlaces nodes nodes' → Walkable x nodes → Walkable x nodes'
walkable_still {x} o k = record {
  tree_of = k.tree_of;
  ended = subst (Ended k.tree_of.tree 0 0) (sym o.ends) k.ended;
  entered = subst (Entered (grammar_in x) (tables_in x) k.tree_of.tree) (sym o.entries) k.entered;
}

pub given_still : {x : Call} {nodes nodes' : List Node} {g g' : List ℕ} {r : ℕ} → OnlyPlaces nodes nodes' → Given x nodes' g g' r → Given x nodes g g' r
given_still {x} o k = record {
  all = λ t en ent. k.all t (subst (Ended t.tree 0 0) (sym o.ends) en) (subst (Entered (grammar_in x) (tables_in x) t.tree) (sym o.entries) ent);
}

-- nodes before i have been visited
pub record Walking (x : Call) (nodes : List Node) (holders : List Holder) (g₀ g : List ℕ) (next i : ℕ) : Type 0 where
  pub held_long : length holders ≡ labels_known
  pub latest : (y : ℕ) → stamp_at holders y ≤ i + 1
  pub room : all_settings (grammar_in x) x.sheet.now ≤ length g₀
  pub long : length g ≡ length g₀
  pub beyond : drop (all_settings (grammar_in x) x.sheet.now) g ≡ drop (all_settings (grammar_in x) x.sheet.now) g₀
  pub walked : (t : TreeIn x) → Ended t.tree 0 0 (subtree_ends nodes) → Entered (grammar_in x) (tables_in x) t.tree (down_entries nodes)
      → Linked (grammar_in x) (tables_in x) next (drop i (journey (grammar_in x) (tables_in x) t.tree)) (group_numbers (grammar_in x) (tables_in x) t.tree).next
      × Written (grammar_in x) x.sheet.now g 0 (visit (grammar_in x) (tables_in x) t.tree 0).own
      × ((a q : ℕ) (ds : Bush) (j m : ℕ) → Sub t.tree 0 a q ds → a < i → Root ds (suc a) j m → Written (grammar_in x) x.sheet.now g m (visit (grammar_in x) (tables_in x) t.tree m).own)

-- at first nothing is held
nobody_at : (n y : ℕ) → get_or (replicate n nobody) y nobody ≡ nobody
nobody_at n y = go (dec_lt y n)
  where
    go : Dec (y < n) → get_or (replicate n nobody) y nobody ≡ nobody
    go (yes h) = get_or-replicate n y nobody nobody h
    go (no h) = get_or-eq_default (replicate n nobody) nobody (omega (arith, length-replicate {A = Holder} n nobody))

none_held : Holding [] 1 (replicate labels_known nobody)
none_held = holding_none (length-replicate {A = Holder} labels_known nobody) (λ y. omega (arith, ap (λ (h : Holder). h.stamp) (nobody_at labels_known y)))

-- the root's own settings, wide of them, are numbered first
root_first : (x : Call) {wide : ℕ} → wide ≡ (grammar_in x).settings ((grammar_in x).left (get_or x.sheet.now 0 0)) → wide ≤ all_settings (grammar_in x) x.sheet.now
root_first x ew = omega (arith, ew, settings_inside (grammar_in x) x.sheet.now 0 (some_nodes x))

pub root_inside : (x : Call) {n wide : ℕ} → all_settings (grammar_in x) x.sheet.now ≤ n
    → wide ≡ (grammar_in x).settings ((grammar_in x).left (get_or x.sheet.now 0 0)) → wide ≤ n
root_inside x room ew = omega (arith, root_first x ew)

pub walking_begins : {x : Call} {nodes : List Node} {holders : List Holder} {g ys : List ℕ} {e wide next : ℕ} → all_settings (grammar_in x) x.sheet.now ≤ length g
    → wide ≡ (grammar_in x).settings ((grammar_in x).left (get_or x.sheet.now 0 0)) → e ≡ (get_or nodes 0 unread).entry
    → Slot x.tables.down.now e 0 1 0 (replicate labels_known nobody) (take wide g) holders ys next → length ys ≡ length (take wide g)
    → Walking x nodes holders g (ys ++ drop wide g) next 0
unfolding all_settings
walking_begins {x} {nodes} {holders} {g} {ys} {e} {wide} {next} room ew ee o ly = record {
  held_long = o.kept ∙ length-replicate {A = Holder} labels_known nobody;
  latest = λ y. omega (arith, (o.given [] [] [] [] none_held).0.latest y);
  room = room;
  long = simp (length-append, length-drop) (omega (arith, long, root_inside x room ew));
  beyond = behind;
  walked = λ t en ent.
      let G = grammar_in x in
      let T = tables_in x in
      let f = t.tree in
      let (hold, er, eg) = o.given [] T.plausible_counts T.feasible_counts T.up none_held in
      let (ef, eo, ex, el) = root_visited G T f t.kinded in
      let n = node_at t 0 (some_nodes x) in
      let (seen, ep, ed) = visited G T f t.kinded 0 (get_or x.sheet.now 0 0) n.below n.is_node in
      let e0 : e ≡ entry_in G T (visit G T f 0) = ee ∙ sym (entry_at nodes 0) ∙ ent 0 (omega (arith, tree_size t, some_nodes x)) in
      let w0 : length (take wide g) ≡ width G (visit G T f 0).prod 0 = wide_is ∙ ew ∙ ap (λ q. G.settings (G.left q)) (sym ep) in
      let xs : slot_labels T e 0 0 (length (take wide g)) ≡ root_labels G T f = ap₂ (λ y z. slot_labels T y 0 0 z) e0 w0 ∙ sym el in
      let own : ys ≡ (visit G T f 0).own = eg ∙ ap (numbered [] 0) xs ∙ sym eo in (
        rw (er, xs) (journey_linked G T f t.kinded),
        ap (λ n. take n (ys ++ drop wide g)) (sym ew ∙ sym long) ∙ take_at ys (drop wide g) (length ys) refl ∙ own,
        λ a q ds j m s k. absurd (omega arith),
      );
}
  where
    wide_is : length (take wide g) ≡ wide
    wide_is = length-take-le wide g (root_inside x room ew)

    long : length ys ≡ wide
    long = ly ∙ wide_is

    behind : drop (all_settings (grammar_in x) x.sheet.now) (ys ++ drop wide g) ≡ drop (all_settings (grammar_in x) x.sheet.now) g
    behind = drop-append-drop wide g ys (all_settings (grammar_in x) x.sheet.now) (root_first x ew) long

module _ {x : Call} {nodes : List Node} {holders : List Holder} {g₀ g : List ℕ} {next i : ℕ} (k : Walking x nodes holders g₀ g next i) where
  -- a node whose parent has been visited has its numbers
  written : (t : TreeIn x) → Written (grammar_in x) x.sheet.now g 0 (visit (grammar_in x) (tables_in x) t.tree 0).own
      → ((a q : ℕ) (ds : Bush) (j m : ℕ) → Sub t.tree 0 a q ds → a < i → Root ds (suc a) j m → Written (grammar_in x) x.sheet.now g m (visit (grammar_in x) (tables_in x) t.tree m).own)
      → (m : ℕ) → m < length x.sheet.now → m ≤ i → Written (grammar_in x) x.sheet.now g m (visit (grammar_in x) (tables_in x) t.tree m).own
  written t first below m h n =
      let node = node_at t m h in
      go (parent t.tree 0 m (get_or x.sheet.now m 0) node.below node.is_node)
    where
      go : ((j : ℕ) × Root t.tree 0 j m) ⊎ ((a : ℕ) × (p : ℕ) × (cs : Bush) × (j : ℕ) × Sub t.tree 0 a p cs × Root cs (suc a) j m)
          → Written (grammar_in x) x.sheet.now g m (visit (grammar_in x) (tables_in x) t.tree m).own
      go (inl (j, r)) =
          let z : m ≡ 0 = (one_tree (grammar_in x) t.tree (grammar_in x).start 0 j m t.kinded r).1 in
          subst (λ y. Written (grammar_in x) x.sheet.now g y (visit (grammar_in x) (tables_in x) t.tree y).own) (sym z) first
      go (inr (a, p, cs, j, z, r)) = below a p cs j m z (omega (arith, (root_in cs (suc a) j m r).0)) r

  -- what a visit needs
  module _ (walkable : Walkable x nodes) (more : i < length x.sheet.now) where
    node : trees.Node walkable.tree_of i
    node = node_at walkable.tree_of i more

    ended_here : Ended node.below (suc i) 0 (subtree_ends nodes)
    ended_here = ended_below walkable.tree_of.tree node.below i (get_or x.sheet.now i 0) 0 (subtree_ends nodes) node.is_node (omega arith) walkable.ended

    walking_children : Children (subtree_ends nodes) i (length ((grammar_in x).kids (get_or x.sheet.now i 0)))
    walking_children = children_of (subtree_ends nodes) i node.below ended_here (grammar_in x) ((grammar_in x).kids (get_or x.sheet.now i 0)) node.kinded
        (few_kids x node.known) (omega (arith, node.inside, few_nodes x))

    walking_kinds : Kinds (grammar_in x) x.sheet.now (subtree_ends nodes) i (get_or x.sheet.now i 0)
    walking_kinds = record {
      there = λ j h. omega (arith, root_in node.below (suc i) j (child_at (subtree_ends nodes) i j) (root j h), node.inside);
      kind = λ j h.
          let G = grammar_in x in
          let at = child_at (subtree_ends nodes) i j in
          let (q, ds, s, heads) = root_kind G node.below (G.kids (get_or x.sheet.now i 0)) (suc i) j at node.kinded (root j h) in
          let s' = sub_child walkable.tree_of.tree 0 i (get_or x.sheet.now i 0) node.below at q ds node.is_node s in
          ap (λ y. G.left y) (sym (byte_is walkable.tree_of at q ds s')) ∙ heads.1;
    }
      where
        root : (j : ℕ) → j < length ((grammar_in x).kids (get_or x.sheet.now i 0)) → Root node.below (suc i) j (child_at (subtree_ends nodes) i j)
        root j h = child_root (subtree_ends nodes) i node.below ended_here (grammar_in x) ((grammar_in x).kids (get_or x.sheet.now i 0)) node.kinded j h

    walking_low : next ≤ max_settings * max_nodes
    walking_low =
        let G = grammar_in x in
        let T = tables_in x in
        let t = walkable.tree_of in
        let linked = (k.walked t walkable.ended walkable.entered).0 in
        let rises = linked_rises G T (drop i (journey G T t.tree)) next (group_numbers G T t.tree).next linked in
        let groups = groups_few G T t.tree t.kinded in
        let all : all_settings G (flat t.tree) ≡ all_settings G x.sheet.now = ap (all_settings G) t.reads in
        let most = settings_few G max_settings x.sheet.now (λ m h. few_settings (accepted_in x) (get_or x.sheet.now m 0) (node_at t m h).known) in
        omega (arith, few_nodes x)

    pub walking_ready : Placed x nodes → Ready x nodes i next g
    walking_ready placed = record {
      there = more;
      low = walking_low;
      children = walking_children;
      kinds_are = walking_kinds;
      places_are = placed;
      room = omega (arith, k.room, k.long);
    }

  pub walking_turn : {holders' : List Holder} {g' : List ℕ} {r : ℕ} → i < length x.sheet.now → Instance x nodes i next holders g holders' g' r
      → Walking x nodes holders' g₀ g' r (i + 1)
  walking_turn {holders'} {g'} {r} more o = record {
    held_long = o.kept ∙ k.held_long;
    latest = λ y. omega (arith, o.latest k.latest y);
    room = k.room;
    long = o.long ∙ k.long;
    beyond = o.beyond ∙ k.beyond;
    walked = λ t en ent.
        let G = grammar_in x in
        let T = tables_in x in
        let f = t.tree in
        let v = visit G T f i in
        let n = node_at t i more in
        let (linked, first, below) = k.walked t en ent in
        let own = written t first below i more (omega arith) in
        let (seen, ep, ed) = visited G T f t.kinded i (get_or x.sheet.now i 0) n.below n.is_node in
        let here : i < length (journey G T f) = omega (arith, journey_long G T f t.kinded, tree_size t) in
        let vs = drop (suc i) (journey G T f) in
        let split : drop i (journey G T f) ≡ v ∷ vs = drop-cons (journey G T f) i nowhere here in
        let (en', linked') = subst (λ z. Linked G T next z (group_numbers G T f).next) split linked in
        let e0 : get_or (down_entries nodes) i 0 ≡ entry_in G T v = ent i (omega (arith, tree_size t)) in
        let (er, keep) = o.given k.latest v.own own in
        let er' : r ≡ after G T v = er ∙ rw (e0, ← en', ← ep) refl in
        let handed_is = handed_same v e0 ep en' in
        let (kept, got) = keep (λ m. (visit G T f m).own) (λ j h.
        let rt = child_root (subtree_ends nodes) i n.below (ended_below f n.below i (get_or x.sheet.now i 0) 0 (subtree_ends nodes) n.is_node (omega arith) en) G (G.kids (get_or x.sheet.now i 0)) n.kinded j h in
        (child_visited G T f t.kinded i (get_or x.sheet.now i 0) n.below j (child_at (subtree_ends nodes) i j) n.is_node rt).1
        ∙ ap (part (kinds_width G (take j (G.kids (get_or x.sheet.now i 0)))) (G.settings (get_or (G.kids (get_or x.sheet.now i 0)) j 0))) handed_is) in (
          rw (add-one i, er') linked',
          kept 0 (omega arith) first,
          λ a q ds j m s h z. onward t en kept got below a q ds j m s h z (ℕ_discrete a i),
        );
  }
    where
      handed_same : (v : Visit) → get_or (down_entries nodes) i 0 ≡ entry_in (grammar_in x) (tables_in x) v → v.prod ≡ get_or x.sheet.now i 0 → v.next ≡ next
          → handed (grammar_in x) (tables_in x) v
          ≡ numbered (own_held (grammar_in x) (tables_in x) (get_or x.sheet.now i 0) (get_or (down_entries nodes) i 0) v.own) next
          (kid_labels (grammar_in x) (tables_in x) (get_or (down_entries nodes) i 0) 1 ((grammar_in x).kids (get_or x.sheet.now i 0)))
      handed_same v e0 ep en = rw (e0, ← en, ← ep) refl

      onward : (t : TreeIn x) → Ended t.tree 0 0 (subtree_ends nodes)
          → ((m : ℕ) → m < length x.sheet.now → Written (grammar_in x) x.sheet.now g m (visit (grammar_in x) (tables_in x) t.tree m).own → Written (grammar_in x) x.sheet.now g' m (visit (grammar_in x) (tables_in x) t.tree m).own)
          → ((j : ℕ) → j < length ((grammar_in x).kids (get_or x.sheet.now i 0)) → Written (grammar_in x) x.sheet.now g' (child_at (subtree_ends nodes) i j) (visit (grammar_in x) (tables_in x) t.tree (child_at (subtree_ends nodes) i j)).own)
          → ((a q : ℕ) (ds : Bush) (j m : ℕ) → Sub t.tree 0 a q ds → a < i → Root ds (suc a) j m → Written (grammar_in x) x.sheet.now g m (visit (grammar_in x) (tables_in x) t.tree m).own)
          → (a q : ℕ) (ds : Bush) (j m : ℕ) → Sub t.tree 0 a q ds → a < i + 1 → Root ds (suc a) j m → Dec (a ≡ i) → Written (grammar_in x) x.sheet.now g' m (visit (grammar_in x) (tables_in x) t.tree m).own
      onward t en kept got below a q ds j m s h z (no y) =
          kept m (omega (arith, root_in ds (suc a) j m z, (sub_in t.tree 0 a q ds s).1, tree_size t)) (below a q ds j m s (omega arith) z)
      onward t en kept got below a q ds j m s h z (yes y) =
          let G = grammar_in x in
          let eq : q ≡ get_or x.sheet.now i 0 = byte_is t a q ds s ∙ ap (λ v. get_or x.sheet.now v 0) y in
          let s' : Sub t.tree 0 i q ds = subst (λ v. Sub t.tree 0 v q ds) y s in
          let z' : Root ds (suc i) j m = subst (λ v. Root ds (suc v) j m) y z in
          let kd = (sub_kinded G t.tree (G.start ∷ []) 0 i q ds t.kinded s').1 in
          let st : child_at (subtree_ends nodes) i j ≡ m = stands (subtree_ends nodes) i ds (ended_below t.tree ds i q 0 (subtree_ends nodes) s' (omega arith) en) j m z' in
          let lj : j < length (G.kids (get_or x.sheet.now i 0)) = rw (← eq) (root_kids G ds (G.kids q) (suc i) j m kd z') in
          subst (λ v. Written G x.sheet.now g' v (visit G (tables_in x) t.tree v).own) st (got j lj)

  pub walking_done : i ≡ length x.sheet.now → Given x nodes g₀ g next
  walking_done h = record {
    all = λ t en ent.
        let G = grammar_in x in
        let T = tables_in x in
        let f = t.tree in
        let (linked, first, below) = k.walked t en ent in
        let long : length (journey G T f) ≡ length x.sheet.now = journey_long G T f t.kinded ∙ tree_size t in
        let e : i ≡ length (journey G T f) = omega arith in
        let over : drop i (journey G T f) ≡ [] = ap (λ m. drop m (journey G T f)) e ∙ drop-length (journey G T f) in
        let last : next ≡ (group_numbers G T f).next = subst (λ z. Linked G T next z (group_numbers G T f).next) over linked in
        let all = written_all G x.sheet.now g (journey G T f) long (omega (arith, k.room, k.long)) (λ m n. written t first below m n (omega arith)) in
        (last, all ∙ ap₂ ◌++◌ (sym (groups_owns G T f t.kinded)) k.beyond);
  }
