-- Demand 3 on Fig. 1: subtrees that group their root's settings in the same way, by the codes that say their chains.
use mathlib.Core.Path.{◌≡◌, refl, sym, subst₂}
use mathlib.Core.Logic.Iff
use mathlib.Core.Logic.{inl, inr}
use mathlib.Core.List.{[], ◌∷◌}
use Prim.Native.Nat.{ℕ, zero, suc, ◌<◌}
use native.Mathlib.Omega.{arith}
use Rattle.chains.specs.Grammar.{Grammar, Lawful, width}
use Rattle.chains.specs.Tree.{Bush, nil, grow, Kinded, Sub}
use Rattle.chains.specs.Chain.{RootChains}
use Rattle.chains.specs.Grouping.{Says, unpack, pack}
use Rattle.chains.specs.Labels.{relabel, joins, labels_by, index, add, canon_from}
use Rattle.chains.specs.State.{pairs_from, code_on}
use Rattle.chains.specs.Choice.{ChosenUp}
use Rattle.chains.specs.Replace.{Interchange}
use Rattle.chains.proofs.WellKinded.{kinded_count, sub_kinded}
use Rattle.chains.proofs.Entries.{subtree_says}
use Rattle.book.specs.Format.{entry, ties_of, grammar}
use Rattle.sheet.specs.Reading.{all_settings}
use Rattle.ranks.specs.Entries.{choices, choice, up_start, down_start}
use Rattle.tables.specs.State.{based}
use Rattle.numbering.specs.Walk.{ranks, places, numbered, unused, slot_labels, kid_labels, walk, root_entry, root_labels}
use Rattle.numbering.specs.Promise.{Lent, TreeOf}
use Rattle.claims.specs.Examples.{book, grouped, Claim}
use Rattle.claims.specs.Replaced.{Replacement, Unchanged}
use Rattle.claims.specs.Swaps.{AfterCalls, SameAt, Swaps}
use Rattle.claims.proofs.Worked.{tie_all, up_state, up_says}
use Rattle.claims.proofs.Demand3.{nothing_changes_outside}
use Rattle.claims.proofs.Figure.{book_accepted}
use Rattle.claims.proofs.FigureSheets.{tower, drawn_1_3, drawn_2_3, grouped_so}

abbrev G : Grammar
G = grammar book

lawful : Lawful G
lawful = book_accepted.lawful

-- ── the codes of a tower's nodes, from the bottom up, say its subtrees' chains ──
module _ (p q r : ℕ) where
  abbrev low_code : ℕ
  low_code = code_on 0 (width G r 0) (up_state book_accepted r [])

  abbrev mid_code : ℕ
  mid_code = code_on 0 (width G q 0) (up_state book_accepted q (low_code ∷ []))

  abbrev top_code : ℕ
  top_code = code_on 0 (width G p 0) (up_state book_accepted p (mid_code ∷ []))

  abbrev codes : ℕ → ℕ
  codes zero = top_code
  codes (suc zero) = mid_code
  codes (suc (suc i)) = low_code

  module _ (kinded : Kinded G (tower p q r) (G.start ∷ [])) where
    inside : (i q' : ℕ) (ds : Bush) → Sub (tower p q r) 0 i q' ds → (q' < G.prods) × Kinded G ds (G.kids q')
    inside i q' ds s = sub_kinded G (tower p q r) (G.start ∷ []) 0 i q' ds kinded s

    rise : ChosenUp G (tower p q r) 0 codes
    rise i q' ds (inl (ei, ep, ec)) =
        let (there, below) = inside 0 p (grow q (grow r nil nil) nil) (inl (refl, refl, refl)) in
        rw (ei, ← ep, ← ec) (up_says book_accepted p there (mid_code ∷ []) (kinded_count G (grow q (grow r nil nil) nil) (G.kids p) below))
    rise i q' ds (inr (inl (inl (ei, ep, ec)))) =
        let (there, below) = inside 1 q (grow r nil nil) (inr (inl (inl (refl, refl, refl)))) in
        rw (ei, ← ep, ← ec) (up_says book_accepted q there (low_code ∷ []) (kinded_count G (grow r nil nil) (G.kids q) below))
    rise i q' ds (inr (inl (inr (inl (inl (ei, ep, ec)))))) =
        let (there, below) = inside 2 r nil (inr (inl (inr (inl (inl (refl, refl, refl)))))) in
        rw (ei, ← ep, ← ec) (up_says book_accepted r there [] (kinded_count G nil (G.kids r) below))
    rise i q' ds (inr (inl (inr (inl (inr (inl s)))))) = absurd s
    rise i q' ds (inr (inl (inr (inl (inr (inr s)))))) = absurd s
    rise i q' ds (inr (inl (inr (inr s)))) = absurd s
    rise i q' ds (inr (inr s)) = absurd s

    top_says : Says (G.settings (G.left p)) top_code (RootChains G p (grow q (grow r nil nil) nil))
    top_says = subtree_says G lawful codes G.start (tower p q r) kinded rise 0 p (grow q (grow r nil nil) nil) (inl (refl, refl, refl))

    mid_says : Says (G.settings (G.left q)) mid_code (RootChains G q (grow r nil nil))
    mid_says = subtree_says G lawful codes G.start (tower p q r) kinded rise 1 q (grow r nil nil) (inr (inl (inl (refl, refl, refl))))

-- trees of one kind whose chains one code says may be exchanged
one_code : (q q' : ℕ) (ds ds' : Bush) (c c' : ℕ) → G.left q ≡ G.left q' → c ≡ c' → Says (G.settings (G.left q)) c (RootChains G q ds)
    → Says (G.settings (G.left q')) c' (RootChains G q' ds') → Interchange G q q' ds ds'
one_code q q' ds ds' c c' ek ec s s' a b ha hb =
    let t = subst₂ (λ k c. Says (G.settings k) c (RootChains G q' ds')) (sym ek) (sym ec) s' in
    Iff.trans (Iff.symm (s.same a b ha hb)) (t.same a b ha hb)

-- ── 2 3 and 2 4 under the root ──
kinded_2_4 : Kinded G (tower 0 2 4) (G.start ∷ [])
unfolding entry
kinded_2_4 = ((omega arith, refl), ((omega arith, refl), ((omega arith, refl), tt, tt), tt), tt)

agree_below : Interchange G 2 2 (grow 3 nil nil) (grow 4 nil nil)
unfolding entry ties_of based tie_all joins relabel labels_by index add canon_from pack unpack pairs_from
agree_below = one_code 2 2 (grow 3 nil nil) (grow 4 nil nil) (mid_code 0 2 3) (mid_code 0 2 4) refl refl (mid_says 0 2 3 drawn_2_3.kinded) (mid_says 0 2 4 kinded_2_4)

abbrev below_swap : Replacement G (0 ∷ 2 ∷ 3 ∷ []) (0 ∷ 2 ∷ 4 ∷ [])
below_swap = record {
  pre = 0 ∷ [];
  post = [];
  prod = 2;
  prod' = 2;
  kids = grow 3 nil nil;
  kids' = grow 4 nil nil;
  kinded = let k = inside 0 2 3 drawn_2_3.kinded 1 2 (grow 3 nil nil) (inr (inl (inl (refl, refl, refl)))) in ((k.0, refl), k.1, tt);
  kinded' = let k = inside 0 2 4 kinded_2_4 1 2 (grow 4 nil nil) (inr (inl (inl (refl, refl, refl)))) in ((k.0, refl), k.1, tt);
  reads = refl;
  reads' = refl;
  agree = agree_below;
}

-- ── 0 1 3 and 0 1 4 ──
kinded_1_4 : Kinded G (tower 0 1 4) (G.start ∷ [])
unfolding entry
kinded_1_4 = ((omega arith, refl), ((omega arith, refl), ((omega arith, refl), tt, tt), tt), tt)

agree_whole : Interchange G 0 0 (grow 1 (grow 3 nil nil) nil) (grow 1 (grow 4 nil nil) nil)
unfolding entry ties_of based tie_all joins relabel labels_by index add canon_from pack unpack pairs_from
agree_whole =
    one_code 0 0 (grow 1 (grow 3 nil nil) nil) (grow 1 (grow 4 nil nil) nil) (top_code 0 1 3) (top_code 0 1 4) refl refl (top_says 0 1 3 drawn_1_3.kinded) (top_says 0 1 4 kinded_1_4)

abbrev whole_swap : Replacement G (0 ∷ 1 ∷ 3 ∷ []) (0 ∷ 1 ∷ 4 ∷ [])
whole_swap = record {
  pre = [];
  post = [];
  prod = 0;
  prod' = 0;
  kids = grow 1 (grow 3 nil nil) nil;
  kids' = grow 1 (grow 4 nil nil) nil;
  kinded = ((drawn_1_3.kinded.0.0, refl), drawn_1_3.kinded.1, tt);
  kinded' = ((kinded_1_4.0.0, refl), kinded_1_4.1, tt);
  reads = refl;
  reads' = refl;
  agree = agree_whole;
}

-- ── what follows of root and node 1 ──
below_unchanged : AfterCalls (0 ∷ 2 ∷ 3 ∷ []) (0 ∷ 2 ∷ 4 ∷ []) (λ n n'. (t : TreeOf G (0 ∷ 2 ∷ 3 ∷ [])) → Unchanged below_swap t n n')
below_unchanged m₀ m made T T' n₀ n n₀' n' counts counts' build taken taken' call call' t = nothing_changes_outside build taken taken' call call' below_swap t

whole_unchanged : AfterCalls (0 ∷ 1 ∷ 3 ∷ []) (0 ∷ 1 ∷ 4 ∷ []) (λ n n'. (t : TreeOf G (0 ∷ 1 ∷ 3 ∷ [])) → Unchanged whole_swap t n n')
whole_unchanged m₀ m made T T' n₀ n n₀' n' counts counts' build taken taken' call call' t = nothing_changes_outside build taken taken' call call' whole_swap t

abbrev tree_2_3 : TreeOf G (0 ∷ 2 ∷ 3 ∷ [])
tree_2_3 = record { tree = tower 0 2 3; kinded = drawn_2_3.kinded; reads = refl }

abbrev tree_1_3 : TreeOf G (0 ∷ 1 ∷ 3 ∷ [])
tree_1_3 = record { tree = tower 0 1 3; kinded = drawn_1_3.kinded; reads = refl }

root_same : {n n' : Lent} → Unchanged below_swap tree_2_3 n n' → SameAt (0 ∷ 2 ∷ 3 ∷ []) (0 ∷ 2 ∷ 4 ∷ []) 0 n n'
unfolding entry
root_same u = record {
  plausible = u.plausible 0 0 (omega arith) (inl (omega arith, refl));
  feasible = u.feasible 0 0 (omega arith) (inl (omega arith, refl));
  shared = λ a b ha hb. u.shared (0, a) (0, b) (0, a) (0, b) (0, grow 2 (grow 3 nil nil) nil, inl (refl, refl, refl), ha) (0, grow 2 (grow 3 nil nil) nil, inl (refl, refl, refl), hb)
      (inl (omega arith, refl), refl) (inl (omega arith, refl), refl);
}

node_1_same : {n n' : Lent} → Unchanged below_swap tree_2_3 n n' → SameAt (0 ∷ 2 ∷ 3 ∷ []) (0 ∷ 2 ∷ 4 ∷ []) 1 n n'
unfolding entry
node_1_same u = record {
  plausible = u.plausible 1 1 (omega arith) (inl (omega arith, refl));
  feasible = u.feasible 1 1 (omega arith) (inl (omega arith, refl));
  shared = λ a b ha hb. u.shared (1, a) (1, b) (1, a) (1, b) (2, grow 3 nil nil, inr (inl (inl (refl, refl, refl))), ha) (2, grow 3 nil nil, inr (inl (inl (refl, refl, refl))), hb)
      (inl (omega arith, refl), refl) (inl (omega arith, refl), refl);
}

whole_same : {n n' : Lent} → Unchanged whole_swap tree_1_3 n n' → SameAt (0 ∷ 1 ∷ 3 ∷ []) (0 ∷ 1 ∷ 4 ∷ []) 0 n n'
unfolding entry
whole_same u = record {
  plausible = u.plausible 0 0 (omega arith) (inl (omega arith, refl));
  feasible = u.feasible 0 0 (omega arith) (inl (omega arith, refl));
  shared = λ a b ha hb. u.shared (0, a) (0, b) (0, a) (0, b) (0, grow 1 (grow 3 nil nil) nil, inl (refl, refl, refl), ha) (0, grow 1 (grow 3 nil nil) nil, inl (refl, refl, refl), hb)
      (inl (omega arith, refl), refl) (inl (omega arith, refl), refl);
}

sheet_2_3 : Claim (grouped (0 ∷ 2 ∷ 3 ∷ []) (3 ∷ 10 ∷ 1 ∷ []) (0 ∷ 0 ∷ 0 ∷ 0 ∷ 0 ∷ 13 ∷ 1 ∷ 0 ∷ 18 ∷ []) (0 ∷ 0 ∷ 0 ∷ 0 ∷ 0 ∷ 0 ∷ 0 ∷ 0 ∷ 0 ∷ 0 ∷ []))
unfolding entry all_settings ranks places numbered unused slot_labels kid_labels walk root_entry root_labels choices choice up_start down_start
sheet_2_3 = grouped_so 0 2 3 drawn_2_3 refl _ _ _ refl refl refl refl refl

-- THEOREM: demand 3 applies to both swaps, and says of root and node 1 that they stay as they are
pub swaps : Swaps
swaps = record {
  below = below_swap;
  at_node_1 = refl;
  below_unchanged = below_unchanged;
  below_same = λ m₀ m made T T' n₀ n n₀' n' counts counts' build taken taken' call call'.
      let u = below_unchanged m₀ m made T T' n₀ n n₀' n' counts counts' build taken taken' call call' tree_2_3 in
      (root_same u, node_1_same u, u.entry 0 0 (omega arith) (λ e. omega arith) (inl (omega arith, refl)));
  own_entry = sheet_2_3;
  whole = whole_swap;
  at_the_root = refl;
  whole_unchanged = whole_unchanged;
  whole_same = λ m₀ m made T T' n₀ n n₀' n' counts counts' build taken taken' call call'.
      whole_same (whole_unchanged m₀ m made T T' n₀ n n₀' n' counts counts' build taken taken' call call' tree_1_3);
}
