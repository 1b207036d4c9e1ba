-- What is written once the choice is made: what the walk tells of the tree.
use mathlib.Core.Path.{◌≡◌, refl, sym, ap, ap₂, subst, ◌∙◌}
use mathlib.Core.List.{List, [], ◌∷◌, ◌++◌}
use Prim.Native.Nat.{ℕ, suc, ◌*◌, ◌<◌}
use native.Mathlib.Omega.{arith}
use lib.ListN.{length, get_or, take, drop}
use lib.Seq.{length-take-le, get_or-take}
use Rattle.chains.specs.Limits.{max_nodes}
use Rattle.chains.proofs.Nodes.{sub_all}
use Rattle.sheet.specs.Reading.{all_settings}
use Rattle.numbering.specs.Walk.{places, started}
use Rattle.numbering.specs.Visits.{Visit, nowhere, rank_of, entry_in, journey, visit}
use Rattle.numbering.specs.Parts.{grammar_in, tables_in, TreeIn, ChosenIn}
use Rattle.numbering.specs.Giving.{rows, Given, Filled}
use Rattle.numbering.specs.declared.call.Call.{Call}
use Rattle.numbering.specs.declared.nodes.Node.{Node}
use Rattle.numbering.proofs.Keeping.{unread, plausible_at, feasible_at, entry_at}
use Rattle.numbering.proofs.Calls.{few_nodes}
use Rattle.numbering.proofs.Journey.{told_of, journey_long, visited, places_journey}
use Rattle.numbering.proofs.Trees.{tree_size}

-- of a node is known what its visit has
record Right (x : Call) (v : Visit) (n : Node) : Type 0 where
  rank : n.plausible.0 ≡ rank_of (grammar_in x) (tables_in x) v.prod v.below
  feasible : n.feasible.0 ≡ v.feasible
  entry : n.entry ≡ entry_in (grammar_in x) (tables_in x) v

module _ (x : Call) where
  rows_told : (ns : List Node) (vs : List Visit) → length ns ≡ length vs → ((j : ℕ) → j < length vs → Right x (get_or vs j nowhere) (get_or ns j unread))
      → rows ns ≡ told_of (grammar_in x) (tables_in x) vs
  unfolding told_of
  rows_told [] [] e h = refl
  rows_told [] (v ∷ vs) e h = absurd (omega arith)
  rows_told (n ∷ ns) [] e h = absurd (omega arith)
  rows_told (n ∷ ns) (v ∷ vs) e h =
      let r = h 0 (omega arith) in
      ap₂ ◌∷◌ r.rank (ap₂ ◌∷◌ r.feasible (ap₂ ◌∷◌ r.entry (rows_told ns vs (omega arith) (λ j k. h (suc j) (omega arith)))))

  module _ (t : TreeIn x) (nodes : List Node) (long : length nodes ≡ max_nodes) (c : ChosenIn x t.tree nodes) where
    chosen_right : (m : ℕ) → m < length x.sheet.now → Right x (visit (grammar_in x) (tables_in x) t.tree m) (get_or nodes m unread)
    chosen_right m h =
        let (q, ds, s) = sub_all t.tree 0 m (omega (arith, tree_size t)) in
        let (seen, ep, ed) = visited (grammar_in x) (tables_in x) t.tree t.kinded m q ds s in
        record {
          rank = sym (plausible_at nodes m) ∙ c.ranked m q ds s (omega arith) ∙ sym (ap₂ (rank_of (grammar_in x) (tables_in x)) ep ed);
          feasible = sym (feasible_at nodes m) ∙ c.right m (omega (arith, tree_size t));
          entry = sym (entry_at nodes m) ∙ c.entered m (omega (arith, tree_size t));
        }

    chosen_places : rows (take (length x.sheet.now) nodes) ≡ places (grammar_in x) (tables_in x) t.tree (started (grammar_in x) (tables_in x) t.tree)
    chosen_places =
        let n = length x.sheet.now in
        let vs = journey (grammar_in x) (tables_in x) t.tree in
        let many : length vs ≡ n = journey_long (grammar_in x) (tables_in x) t.tree t.kinded ∙ tree_size t in
        let some : length (take n nodes) ≡ n = length-take-le n nodes (omega (arith, few_nodes x)) in
        rows_told (take n nodes) vs (some ∙ sym many)
        (λ j h. let k : j < n = omega arith in subst (Right x (get_or vs j nowhere)) (sym (get_or-take n nodes j unread k)) (chosen_right j k))
        ∙ sym (places_journey (grammar_in x) (tables_in x) t.tree t.kinded)

pub filled : {x : Call} {nodes : List Node} {n g n' g' : List ℕ} {r : ℕ} → length nodes ≡ max_nodes
    → n' ≡ rows (take (length x.sheet.now) nodes) ++ drop (3 * length (take (length x.sheet.now) nodes)) n → Given x nodes g g' r → Filled x nodes n g n' g' r
filled {x} {nodes} {n} long told given = record {
  all = λ t ch.
      let (counted, groups) = given.all t ch.ended ch.entered in
      let some : length (take (length x.sheet.now) nodes) ≡ length x.sheet.now = length-take-le (length x.sheet.now) nodes (omega (arith, few_nodes x)) in
      record {
        of = t;
        nodes = told ∙ ap₂ (λ (xs : List ℕ) (k : ℕ). xs ++ drop (3 * k) n) (chosen_places x t nodes long ch) some;
        groups = groups;
        counted = ap (λ (k : ℕ). length x.sheet.now ∷ all_settings (grammar_in x) x.sheet.now ∷ k ∷ []) counted;
      };
}
