-- DEMAND 3: a subtree may be replaced by another that groups its root's settings, by its own chains, in the same way, and nothing changes outside.
use mathlib.Core.Path.{◌≡◌, refl, sym, ap, ap₂, ◌∙◌, subst}
use mathlib.Core.Logic.Iff
use mathlib.Core.Logic.{inl, inr, ◌↔◌}
use mathlib.Core.List.{List, [], ◌∷◌, map}
use Prim.Native.Nat.{ℕ, suc, ◌+◌, ◌≤◌, ◌<◌}
use native.Mathlib.Omega.{arith}
use lib.ListN.{length}
use Rattle.lists.specs.Refusals.{accepted}
use Rattle.lists.proofs.Carries.{Carries}
use Rattle.chains.specs.Grammar.{Grammar, Lawful}
use Rattle.chains.specs.Tree.{Bush, nil, grow, size, Kinded, Inst, Sub, roots, Fitted}
use Rattle.chains.specs.Grouping.{Says}
use Rattle.chains.specs.Replace.{Hole, plug, spot, Moves, Shifts, Interchange}
use Rattle.chains.proofs.Says.{says_unique}
use Rattle.chains.proofs.WellKinded.{sub_kinded}
use Rattle.chains.proofs.Nodes.{flat_length, sub_in, sub_all}
use Rattle.chains.proofs.Holes.{spot_in, plug_size, AllMove, sub_kept}
use Rattle.chains.proofs.Replace.{replaced_chains, replaced_kind, replaced_plausible, replaced_feasible, replaced_fitted}
use Rattle.chains.proofs.Sheets.{two_sheets}
use Rattle.book.specs.Format.{grammar}
use Rattle.ranks.specs.Entries.{down_entry}
use Rattle.members.specs.Sets.{member}
use Rattle.tables.specs.Memory.{Fine}
use Rattle.tables.specs.Promise as tables
use Rattle.members.proofs.Ranked.{rank_once}
use Rattle.tables.proofs.Memory.{fine_placed}
use Rattle.numbering.specs.Walk.{Tables, ranks, places, started}
use Rattle.numbering.specs.Promise.{Lent, TreeOf, CallDue}
use Rattle.numbering.specs.Places.{plausible_rank, feasible_rank, down_entry_of, number_of}
use Rattle.numbering.proofs.Told.{visited}
use Rattle.claims.specs.Build.{LeftBy, tables_of}
use Rattle.claims.specs.Groups.{RankOf, GroupsAreChains}
use Rattle.claims.specs.Replaced.{Replacement, Outside, Unchanged}
use Rattle.claims.proofs.Served.{Served, built_lawful, taken_whole, entry_taken, built_serves}
use Rattle.claims.proofs.Demand2Groups.{nodes_carried, one_tree_of, groups_are_chains}

-- two ranks of one grouping are the same rank
same_rank : {G : Grammar} {n : ℕ} {P : ℕ → ℕ → Type 0} {s c : List ℕ} {k k' r r' : ℕ} {R R' : ℕ → ℕ → Type 0} → Fine n P s c → k < n → k ≡ k'
    → ((x : ℕ) → Says (G.settings k) x R → Says (G.settings k') x R') → RankOf G s c k R r → RankOf G s c k' R' r' → r ≡ r'
same_rank {G} {s = s} {c} {k} {k'} {r} {r'} {R' = R'} fine low e move a b =
    let b' : RankOf G s c k R' r' = subst (λ t. RankOf G s c t R' r') (sym e) b in
    let moved = subst (λ t. Says (G.settings t) (member s k r) R') (sym e) (move (member s k r) a.says) in
    rank_once (fine_placed fine k low) r r' (fine.rising k low) a.below b'.below (says_unique moved b'.says)

-- the down entry of a node, by its production, its feasible rank and its children's plausible ranks
module _ {b : List ℕ} {m₀ m : tables.Lent} {entries : List ℕ} {T : Tables} (build : tables.BuildDue b m₀ (accepted entries) m) (taken : LeftBy (grammar b) m T) where
  abbrev EntryTold : Bush → List ℕ → Type 0
  EntryTold f nodes = (i q : ℕ) (ds : Bush) → Sub f 0 i q ds
      → down_entry_of nodes i ≡ down_entry (grammar b) m.plausible_counts m.feasible_counts q (feasible_rank nodes i) (map (plausible_rank nodes) (roots ds (suc i)))

  entry_told : (f : Bush) → Kinded (grammar b) f ((grammar b).start ∷ []) → (nodes : List ℕ) → Carries nodes 0 (places (grammar b) T f (started (grammar b) T f)) → EntryTold f nodes
  entry_told f kinded nodes told i q ds s =
      let G = grammar b in
      let v = visited G T nodes f 0 (started G T f) told i q ds s in
      let there = (sub_kinded G f (G.start ∷ []) 0 i q ds kinded s).0 in
      v.entry ∙ entry_taken build taken q (feasible_rank nodes i) (ranks G T ds) there
      ∙ ap (down_entry G m.plausible_counts m.feasible_counts q (feasible_rank nodes i)) v.kids

-- ── one hole, filled in two ways ──
module _ {G : Grammar} (L : Lawful G) {m : tables.Lent} (served : Served G m.plausible m.feasible (tables_of m)) {l l' : List ℕ} {n n' : Lent} {counts counts' : List ℕ}
    (h : Hole) (q q' : ℕ) (ds ds' : Bush) (kinded : Kinded G (plug h q ds) (G.start ∷ [])) (kinded' : Kinded G (plug h q' ds') (G.start ∷ []))
    (agree : Interchange G q q' ds ds')
    (one : GroupsAreChains G l (plug h q ds) m n counts) (other : GroupsAreChains G l' (plug h q' ds') m n' counts') where
  -- a node outside, with its counterpart
  pub record Both (i i' : ℕ) : Type 0 where
    pub prod : ℕ
    pub kids : Bush
    pub prod' : ℕ
    pub kids' : Bush
    pub at : Sub (plug h q ds) 0 i prod kids
    pub at' : Sub (plug h q' ds') 0 i' prod' kids'

  both : (i i' : ℕ) → i < size (plug h q ds) → Moves (spot h 0) (size ds) (size ds') i i' → Both i i'
  both i i' low moves =
      let (p, cs, s) = sub_all (plug h q ds) 0 i (omega arith) in
      let (p', cs', s') = sub_all (plug h q' ds') 0 i' (there moves) in
      record { prod = p; kids = cs; prod' = p'; kids' = cs'; at = s; at' = s' }
    where
      there : Moves (spot h 0) (size ds) (size ds') i i' → (0 ≤ i') × (i' < 0 + size (plug h q' ds'))
      there (inl a) = let k = spot_in h 0 q' ds' in omega arith
      there (inr a) = let k = plug_size h q q' ds ds' in omega arith

  module _ (i i' : ℕ) (low : i < size (plug h q ds)) (moves : Moves (spot h 0) (size ds) (size ds') i i') where
    it : Both i i'
    it = both i i' low moves

    same_kind : G.left it.prod ≡ G.left it.prod'
    same_kind = replaced_kind G L h (G.start ∷ []) q q' ds ds' kinded kinded' agree i i' moves it.prod it.prod' it.kids it.kids' it.at it.at'

    kind_low : G.left it.prod < G.kinds
    kind_low = L.left_in it.prod (sub_kinded G (plug h q ds) (G.start ∷ []) 0 i it.prod it.kids kinded it.at).0

    pub same_plausible : plausible_rank n.nodes i ≡ plausible_rank n'.nodes i'
    same_plausible =
        same_rank served.plausible kind_low same_kind
        (λ x. (replaced_plausible G L h (G.start ∷ []) q q' ds ds' kinded kinded' agree i i' moves it.prod it.prod' it.kids it.kids' it.at it.at' x).0)
        (one.own i it.prod it.kids it.at) (other.own i' it.prod' it.kids' it.at')

    pub same_feasible : feasible_rank n.nodes i ≡ feasible_rank n'.nodes i'
    same_feasible =
        same_rank served.feasible kind_low same_kind
        (λ x. (replaced_feasible G L h (G.start ∷ []) q q' ds ds' kinded kinded' agree i i' moves it.prod it.prod' it.kids it.kids' it.at it.at' x).0)
        (one.whole i it.prod it.kids it.at) (other.whole i' it.prod' it.kids' it.at')

  -- the roots of two forests, each the other's moved, have the same plausible ranks
  kids_same : (f g : Bush) (a b : ℕ) → a + size f ≤ size (plug h q ds) → AllMove (spot h 0) (size ds) (size ds') (roots f a) (roots g b)
      → map (plausible_rank n.nodes) (roots f a) ≡ map (plausible_rank n'.nodes) (roots g b)
  kids_same nil nil a b low moves = refl
  kids_same nil (grow p cs rest) a b low moves = absurd moves
  kids_same (grow p cs rest) nil a b low moves = absurd moves
  kids_same (grow p cs rest) (grow p' cs' rest') a b low moves =
      ap₂ ◌∷◌ (same_plausible a b (omega arith) moves.0) (kids_same rest rest' (suc (a + size cs)) (suc (b + size cs')) (omega arith) moves.1)

  -- a node outside other than the hole's has its production, its feasible rank and its children's plausible ranks, and so its entry
  pub same_entry : (number : ℕ → ℕ → List ℕ → ℕ)
      → ((i p : ℕ) (cs : Bush) → Sub (plug h q ds) 0 i p cs → down_entry_of n.nodes i ≡ number p (feasible_rank n.nodes i) (map (plausible_rank n.nodes) (roots cs (suc i))))
      → ((i p : ℕ) (cs : Bush) → Sub (plug h q' ds') 0 i p cs → down_entry_of n'.nodes i ≡ number p (feasible_rank n'.nodes i) (map (plausible_rank n'.nodes) (roots cs (suc i))))
      → (i i' : ℕ) → i < size (plug h q ds) → (i ≡ spot h 0 → ⊥) → Moves (spot h 0) (size ds) (size ds') i i' → down_entry_of n.nodes i ≡ down_entry_of n'.nodes i'
  same_entry number told told' i i' low apart moves =
      let (p, cs, s) = sub_all (plug h q ds) 0 i (omega arith) in
      let (cs', s', all) = sub_kept q q' ds ds' h 0 i i' p cs moves apart s in
      let inside = sub_in (plug h q ds) 0 i p cs s in
      told i p cs s ∙ ap₂ (number p) (same_feasible i i' low moves) (kids_same cs cs' (suc i) (suc i') (omega arith) all) ∙ sym (told' i' p cs' s')

  pub same_sharing : (x y x' y' : Inst) → Fitted G (plug h q ds) 0 x → Fitted G (plug h q ds) 0 y → Shifts (spot h 0) (size ds) (size ds') x x' → Shifts (spot h 0) (size ds) (size ds') y y'
      → (number_of G l n.groups x ≡ number_of G l n.groups y) ↔ (number_of G l' n'.groups x' ≡ number_of G l' n'.groups y')
  same_sharing x y x' y' hx hy sx sy =
      let fitted = replaced_fitted G L h (G.start ∷ []) q q' ds ds' kinded kinded' agree in
      Iff.trans (one.shared x y hx hy)
      (Iff.trans (replaced_chains G L h (G.start ∷ []) q q' ds ds' kinded kinded' agree x y x' y' sx sy) (Iff.symm (other.shared x' y' (fitted x x' sx hx) (fitted y y' sy hy))))

-- THEOREM: of two accepted sheet calls by what one accepted build left, where the one sheet is the other with a subtree replaced by one that groups
-- its root's settings in the same way, the nodes outside have the same ranks, all but that root the same entries, and settings outside share a group in the one exactly when in the other
pub nothing_changes_outside : {b l l' : List ℕ} {m₀ m : tables.Lent} {entries : List ℕ} {T T' : Tables} {n₀ n n₀' n' : Lent} {counts counts' : List ℕ}
    → tables.BuildDue b m₀ (accepted entries) m → LeftBy (grammar b) m T → LeftBy (grammar b) m T'
    → CallDue b l T n₀ (accepted counts) n → CallDue b l' T' n₀' (accepted counts') n'
    → (r : Replacement (grammar b) l l') (t : TreeOf (grammar b) l) → Unchanged r t n n'
nothing_changes_outside {b} {l} {l'} {m₀} {m} {entries} {T} {T'} {n₀} {n} {n₀'} {n'} {counts} {counts'} build taken taken' call call' r t =
    let G = grammar b in
    let t' = call'.1.of in
    let (h, e, e', at) = two_sheets G (G.start ∷ []) t.tree t'.tree r.prod r.prod' r.kids r.kids' r.pre r.post t.kinded t'.kinded
    r.kinded r.kinded' (t.reads ∙ r.reads) (t'.reads ∙ r.reads') in
    filled h e e' at
  where
    filled : (h : Hole) → plug h r.prod r.kids ≡ t.tree → plug h r.prod' r.kids' ≡ call'.1.of.tree → spot h 0 ≡ length r.pre → Unchanged r t n n'
    filled h e e' at =
        let G = grammar b in
        let L = built_lawful build in
        let served = built_serves build (taken_whole build) in
        let kinded = subst (λ f. Kinded G f (G.start ∷ [])) (sym e) t.kinded in
        let kinded' = subst (λ f. Kinded G f (G.start ∷ [])) (sym e') call'.1.of.kinded in
        let one = subst (λ f. GroupsAreChains G l f m n counts) (sym e) (groups_are_chains build taken call t) in
        let other = subst (λ f. GroupsAreChains G l' f m n' counts') (sym e') (groups_are_chains build taken' call' call'.1.of) in
        let entries_told = entry_told build taken (plug h r.prod r.kids) kinded n.nodes
        (subst (λ f. Carries n.nodes 0 (places G T f (started G T f))) (one_tree_of call.1.of t ∙ sym e) (nodes_carried call.1)) in
        let entries_told' = entry_told build taken' (plug h r.prod' r.kids') kinded' n'.nodes
        (subst (λ f. Carries n'.nodes 0 (places G T' f (started G T' f))) (sym e') (nodes_carried call'.1)) in
        let number : ℕ → ℕ → List ℕ → ℕ = down_entry G m.plausible_counts m.feasible_counts in
        let inside = spot_in h 0 r.prod r.kids in
        let long : size (plug h r.prod r.kids) ≡ length l = ap size e ∙ sym (flat_length t.tree) ∙ ap length t.reads in
        let spotted : (i i' : ℕ) → Outside r i i' → Moves (spot h 0) (size r.kids) (size r.kids') i i'
        = λ i i' o. subst (λ z. Moves z (size r.kids) (size r.kids') i i') (sym at) o in
        let fitted : (x : Inst) → Fitted G t.tree 0 x → Fitted G (plug h r.prod r.kids) 0 x = λ x. subst (λ f. Fitted G f 0 x) (sym e) in
        record {
          plausible = λ i i' low o. same_plausible L served h r.prod r.prod' r.kids r.kids' kinded kinded' r.agree one other i i' (omega arith) (spotted i i' o);
          feasible = λ i i' low o. same_feasible L served h r.prod r.prod' r.kids r.kids' kinded kinded' r.agree one other i i' (omega arith) (spotted i i' o);
          entry = λ i i' low apart o. same_entry L served h r.prod r.prod' r.kids r.kids' kinded kinded' r.agree one other number entries_told entries_told' i i' (omega arith)
              (λ z. apart (omega arith)) (spotted i i' o);
          shared = λ x y x' y' hx hy sx sy. same_sharing L served h r.prod r.prod' r.kids r.kids' kinded kinded' r.agree one other x y x' y' (fitted x hx) (fitted y hy)
              (spotted x.0 x'.0 sx.0, sx.1) (spotted y.0 y'.0 sy.0, sy.1);
        }
