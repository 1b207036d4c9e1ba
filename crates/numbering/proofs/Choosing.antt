-- All reads in their order: upward, the root, downward.
use mathlib.Core.Path.{◌≡◌, refl, sym, ap, subst, ◌∙◌}
use mathlib.Core.Logic.{inl}
use mathlib.Core.List.{List, [], ◌∷◌}
use Prim.Native.Nat.{ℕ, suc, ◌+◌, ◌-◌, ◌≤◌, ◌<◌}
use native.Mathlib.Omega.{arith}
use lib.ListN.{length, get_or, set}
use lib.Seq.{get_or-set_same}
use Rattle.std.specs.Prelude.{Result, Ok, Err}
use Rattle.refusals.specs.declared.Refused.{Refused}
use Rattle.refusals.specs.declared.Refusal.TheVariants.{BadTables}
use Rattle.chains.specs.Limits.{max_nodes}
use Rattle.chains.specs.Grammar.{Grammar}
use Rattle.chains.specs.Tree.{Bush, nil, grow, size, Kinded, Sub}
use Rattle.chains.proofs.Nodes.{sub_in}
use Rattle.book.specs.Reading.{told}
use Rattle.bookcheck.proofs.Accepted.{told_start}
use Rattle.numbering.specs.Walk.{Tables, ranks, started}
use Rattle.numbering.specs.Promise.{BadRoot}
use Rattle.numbering.specs.Nodes.{plausible_ranks, feasible_ranks, subtree_ends, down_entries}
use Rattle.numbering.specs.Parts.{grammar_in, tables_in, TreeIn, Ended, Ranked, NoBadUp, UpReads, RightRank, NoBadDown, DownIs, DownReads, Fails, upward, root, downward, ChoiceIs, Choice}
use Rattle.numbering.specs.declared.call.Call.{Call}
use Rattle.numbering.specs.declared.nodes.Node.{Node}
use Rattle.numbering.proofs.Keeping.{unread, plausible_at, feasible_set, feasible_long, upward_set}
use Rattle.numbering.proofs.Calls.{accepted_in}
use Rattle.numbering.proofs.Journey.{root_visited}

-- the root's rank
started_rank : (G : Grammar) (T : Tables) (f : Bush) (plausible : List ℕ) → Kinded G f (G.start ∷ []) → Ranked G T f 0 0 plausible → started G T f 0 ≡ get_or plausible 0 0
unfolding ranks
started_rank G T nil plausible k r = absurd k
started_rank G T (grow p cs rest) plausible k r = sym (r 0 p cs (inl (refl, refl, refl)) (omega arith))

module _ (G : Grammar) (T : Tables) (f : Bush) where
  inside : (i q : ℕ) (ds : Bush) → Sub f 0 i q ds → i < size f
  inside i q ds s = omega (arith, (sub_in f 0 i q ds s).0.1)

  before_upward : (i : ℕ) → i < size f → NoBadUp G T f (suc i) → (p s : ℕ) → s < size f - i → Fails G T f (size f) p s → ⊥
  before_upward i h none p s k x = go x k
    where
      go : {p s : ℕ} → Fails G T f (size f) p s → s < size f - i → ⊥
      go (upward m q ds z bad) k = none m q ds z (omega (arith, inside m q ds z)) bad
      go (root bad) k = omega arith
      go (downward m q ds z bad) k = omega arith

  before_root : NoBadUp G T f 0 → (p s : ℕ) → s < size f + 1 → Fails G T f (size f) p s → ⊥
  before_root none p s k x = go x k
    where
      go : {p s : ℕ} → Fails G T f (size f) p s → s < size f + 1 → ⊥
      go (upward m q ds z bad) k = none m q ds z (omega arith) bad
      go (root bad) k = omega arith
      go (downward m q ds z bad) k = omega arith

  before_downward : (i : ℕ) → NoBadUp G T f 0 → (BadRoot G T f → ⊥) → NoBadDown G T f i → (p s : ℕ) → s < size f + 2 + i → Fails G T f (size f) p s → ⊥
  before_downward i none fine low p s k x = go x k
    where
      go : {p s : ℕ} → Fails G T f (size f) p s → s < size f + 2 + i → ⊥
      go (upward m q ds z bad) k = none m q ds z (omega arith) bad
      go (root bad) k = fine bad
      go (downward m q ds z bad) k = low m q ds z (omega arith) bad

  none_fails : NoBadUp G T f 0 → (BadRoot G T f → ⊥) → NoBadDown G T f (size f) → (p s : ℕ) → Fails G T f (size f) p s → ⊥
  none_fails none fine low p s x = go x
    where
      go : {p s : ℕ} → Fails G T f (size f) p s → ⊥
      go (upward m q ds z bad) = none m q ds z (omega arith) bad
      go (root bad) = fine bad
      go (downward m q ds z bad) = low m q ds z (inside m q ds z) bad

-- ── the exits ──
pub choice_up : {x : Call} {nodes : List Node} {z : Refused} → UpReads x nodes (Err z) → Choice x nodes (Err z)
choice_up {x} {z = z} up = record {
  case = λ t.
      let (is, (q, ds, s, bad), none) = up.case t in
      let G = grammar_in x in
      let T = tables_in x in
      (is, size t.tree - z.place, upward z.place q ds s bad, before_upward G T t.tree z.place (inside G T t.tree z.place q ds s) none);
}

module _ {x : Call} {nodes : List Node} (up : UpReads x nodes (Ok (tt {0}))) (long : length nodes ≡ max_nodes) where
  root_rank : (t : TreeIn x) → started (grammar_in x) (tables_in x) t.tree 0 ≡ get_or (plausible_ranks nodes) 0 0
  root_rank t = started_rank (grammar_in x) (tables_in x) t.tree (plausible_ranks nodes) t.kinded (up.case t).1

  -- the root's rank, held against its count
  module _ {kind rank : ℕ} (ek : kind ≡ told x.book.now 3) (er : rank ≡ (get_or nodes 0 unread).plausible.0) where
    count_is : get_or x.tables.feasible_counts.now kind 0 ≡ get_or x.tables.feasible_counts.now (grammar_in x).start 0
    count_is = ap (λ k. get_or x.tables.feasible_counts.now k 0) (ek ∙ told_start (accepted_in x))

    rank_is : (t : TreeIn x) → rank ≡ started (grammar_in x) (tables_in x) t.tree 0
    rank_is t = er ∙ sym (plausible_at nodes 0) ∙ sym (root_rank t)

    pub choice_root : get_or x.tables.feasible_counts.now kind 0 ≤ rank → (z : Refused) → z ≡ record { refusal = BadTables; place = 0 } → Choice x nodes (Err z)
    choice_root high z ez =
        let at_root : Choice x nodes (Err (record { refusal = BadTables; place = 0 })) = record {
          case = λ t.
              let bad : BadRoot (grammar_in x) (tables_in x) t.tree = omega (arith, count_is, rank_is t) in
              (refl, size t.tree + 1, root bad, before_root (grammar_in x) (tables_in x) t.tree (up.case t).0);
        } in
        subst (λ y. Choice x nodes (Err y)) (sym ez) at_root

    module _ (low : rank < get_or x.tables.feasible_counts.now kind 0) (n : Node) (ef : n.feasible.0 ≡ rank) (ep : n.plausible.0 ≡ (get_or nodes 0 unread).plausible.0)
        (ee : n.end ≡ (get_or nodes 0 unread).end) where
      pub choice_ended : (t : TreeIn x) → Ended t.tree 0 0 (subtree_ends (set nodes 0 n))
      choice_ended t = subst (Ended t.tree 0 0) (sym (upward_set nodes 0 n ep ee).ends) (up.case t).2

      module _ {nodes' : List Node} {r : Result (Unit {0}) Refused} (down : DownReads x (set nodes 0 n) nodes' r) where
        fine : (t : TreeIn x) → BadRoot (grammar_in x) (tables_in x) t.tree → ⊥
        fine t h = omega (arith, count_is, rank_is t)

        ranked : (t : TreeIn x) → Ranked (grammar_in x) (tables_in x) t.tree 0 0 (plausible_ranks (set nodes 0 n))
        ranked t = subst (Ranked (grammar_in x) (tables_in x) t.tree 0 0) (sym (upward_set nodes 0 n ep ee).plausible) (up.case t).1

        first : (t : TreeIn x) → RightRank (grammar_in x) (tables_in x) t.tree (feasible_ranks (set nodes 0 n)) 0
        first t =
            ap (λ (s : List ℕ). get_or s 0 0) (feasible_set nodes 0 n)
            ∙ get_or-set_same (feasible_ranks nodes) 0 n.feasible.0 0 (omega (arith, feasible_long nodes))
            ∙ ef ∙ rank_is t ∙ sym (root_visited (grammar_in x) (tables_in x) t.tree t.kinded).0

        choice_of : (r' : Result (Unit {0}) Refused) → r ≡ r' → (t : TreeIn x) → ChoiceIs x t.tree nodes' r'
        choice_of (Ok u) e t =
            let G = grammar_in x in
            let T = tables_in x in
            let (bad, right, entered) = subst (DownIs G T t.tree (feasible_ranks nodes') (down_entries nodes')) e (down.case t (choice_ended t) (ranked t) (first t)) in (
              none_fails G T t.tree (up.case t).0 (fine t) bad,
              record {
                ranked = subst (Ranked G T t.tree 0 0) (sym down.upward.plausible) (ranked t);
                ended = subst (Ended t.tree 0 0) (sym down.upward.ends) (choice_ended t);
                right = right;
                entered = entered;
              },
            )
        choice_of (Err z) e t =
            let G = grammar_in x in
            let T = tables_in x in
            let (is, (q, ds, s, bad), below) = subst (DownIs G T t.tree (feasible_ranks nodes') (down_entries nodes')) e (down.case t (choice_ended t) (ranked t) (first t)) in
            (is, size t.tree + 2 + z.place, downward z.place q ds s bad, before_downward G T t.tree z.place (up.case t).0 (fine t) below)

        pub choice_down : Choice x nodes' r
        choice_down = record { case = choice_of r refl }
