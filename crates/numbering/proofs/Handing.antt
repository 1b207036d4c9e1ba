-- The loop that gives each child its feasible rank.
use mathlib.Core.Path.{◌≡◌, sym, ap, ◌∙◌}
use mathlib.Core.Bool.{true, false}
use mathlib.Core.List.{List}
use Prim.Native.Nat.{ℕ, ◌+◌, ◌≤◌, ◌<◌}
use native.Mathlib.Decide.{ℕ_discrete}
use native.Mathlib.Omega.{arith}
use lib.ListN.{length, get_or, set, length-set}
use lib.Seq.{get_or-set_same, get_or-set_other}
use Rattle.chains.specs.Limits.{max_nodes}
use Rattle.ranks.specs.Reads.{child_rank_at}
use Rattle.numbering.specs.Nodes.{feasible_ranks, subtree_ends, OnlyFeasible}
use Rattle.numbering.specs.Parts.{grammar_in, child_at, Children, HandedDown}
use Rattle.numbering.specs.declared.call.Call.{Call}
use Rattle.numbering.specs.declared.nodes.Node.{Node}
use Rattle.numbering.proofs.Keeping.{unread, end_at, feasible_long, feasible_set, only_none, only_set, only_more}
use Rattle.numbering.proofs.Children.{child_low, child_first, child_next}

-- the first j children have got their ranks
pub record Handing (x : Call) (i p e : ℕ) (nodes₀ nodes : List Node) (child j : ℕ) : Type 0 where
  pub long : length nodes ≡ max_nodes
  pub only : OnlyFeasible nodes₀ nodes
  pub stands : child ≡ child_at (subtree_ends nodes₀) i j
  pub low : (k : ℕ) → k < j → child_rank_at x.tables.down.now e k < get_or x.tables.feasible_counts.now (get_or ((grammar_in x).kids p) k 0) 0
  pub gave : (F : ℕ → ℕ) → ((k : ℕ) → k < length ((grammar_in x).kids p) → F (child_at (subtree_ends nodes₀) i k) ≡ child_rank_at x.tables.down.now e k)
      → ((m : ℕ) → get_or (feasible_ranks nodes₀) m 0 ≡ F m → get_or (feasible_ranks nodes) m 0 ≡ F m)
      × ((k : ℕ) → k < j → get_or (feasible_ranks nodes) (child_at (subtree_ends nodes₀) i k) 0 ≡ F (child_at (subtree_ends nodes₀) i k))

pub handing_none : {x : Call} {i p e : ℕ} {nodes : List Node} → length nodes ≡ max_nodes → Handing x i p e nodes nodes (i + 1) 0
handing_none {i = i} {nodes = nodes} l = record {
  long = l;
  only = only_none nodes;
  stands = child_first (subtree_ends nodes) i;
  low = λ k h. absurd (omega arith);
  gave = λ F f. (λ m h. h, λ k h. absurd (omega arith));
}

module _ {x : Call} {i p e : ℕ} {nodes₀ nodes : List Node} {child j : ℕ} (h : Handing x i p e nodes₀ nodes child j)
    (c : Children (subtree_ends nodes₀) i (length ((grammar_in x).kids p))) {ks : List ℕ} (ek : ks ≡ (grammar_in x).kids p) where
  module _ (more : j < length ks) where
    here : j < length ((grammar_in x).kids p)
    here = omega (arith, ap length ek)

    pub handing_inside : child < max_nodes
    handing_inside = child_low c here h.stands

    -- the child's rank r, held against the count of its kind
    module _ {r : ℕ} (er : r ≡ child_rank_at x.tables.down.now e j) where
      pub handing_bad : get_or x.tables.feasible_counts.now (get_or ks j 0) 0 ≤ r → HandedDown x i p e nodes₀ nodes false
      handing_bad l = record { only = h.only; case = (j, here, rw (ek, er) at l) }

      pub handing_turn : r < get_or x.tables.feasible_counts.now (get_or ks j 0) 0 → (n : Node) → n.feasible.0 ≡ r
          → n.plausible.0 ≡ (get_or nodes child unread).plausible.0 → n.end ≡ (get_or nodes child unread).end → n.entry ≡ (get_or nodes child unread).entry
          → Handing x i p e nodes₀ (set nodes child n) (get_or nodes child unread).end (j + 1)
      handing_turn l n ef epl een eent = record {
        long = length-set nodes child n ∙ h.long;
        only = only_more h.only (only_set nodes child n epl een eent);
        stands = child_next (subtree_ends nodes₀) i j h.stands (sym (end_at nodes child) ∙ ap (λ t. get_or t child 0) h.only.upward.ends);
        low = λ m k. lower m k (ℕ_discrete m j);
        gave = λ F f. (λ m g. kept_on F f m ((h.gave F f).0 m g) (ℕ_discrete m child), λ m k. got F f m k (ℕ_discrete m j));
      }
        where
          new : feasible_ranks (set nodes child n) ≡ set (feasible_ranks nodes) child r
          new = feasible_set nodes child n ∙ ap (set (feasible_ranks nodes) child) ef

          child_has : get_or (feasible_ranks (set nodes child n)) child 0 ≡ r
          child_has = ap (λ (t : List ℕ). get_or t child 0) new ∙ get_or-set_same (feasible_ranks nodes) child r 0 (omega (arith, handing_inside, feasible_long nodes, h.long))

          lower : (m : ℕ) → m < j + 1 → Dec (m ≡ j) → child_rank_at x.tables.down.now e m < get_or x.tables.feasible_counts.now (get_or ((grammar_in x).kids p) m 0) 0
          lower m k (no q) = h.low m (omega arith)
          lower m k (yes q) = rw (q, ← ek, ← er) l

          kept_on : (F : ℕ → ℕ) → ((m : ℕ) → m < length ((grammar_in x).kids p) → F (child_at (subtree_ends nodes₀) i m) ≡ child_rank_at x.tables.down.now e m)
              → (m : ℕ) → get_or (feasible_ranks nodes) m 0 ≡ F m → Dec (m ≡ child) → get_or (feasible_ranks (set nodes child n)) m 0 ≡ F m
          kept_on F f m g (no q) = ap (λ (t : List ℕ). get_or t m 0) new ∙ get_or-set_other (feasible_ranks nodes) child m r 0 q ∙ g
          kept_on F f m g (yes q) = ap (λ t. get_or (feasible_ranks (set nodes child n)) t 0) q ∙ child_has ∙ er ∙ sym (f j here) ∙ ap F (sym h.stands ∙ sym q)

          got : (F : ℕ → ℕ) → ((m : ℕ) → m < length ((grammar_in x).kids p) → F (child_at (subtree_ends nodes₀) i m) ≡ child_rank_at x.tables.down.now e m)
              → (m : ℕ) → m < j + 1 → Dec (m ≡ j) → get_or (feasible_ranks (set nodes child n)) (child_at (subtree_ends nodes₀) i m) 0 ≡ F (child_at (subtree_ends nodes₀) i m)
          got F f m k (no q) = kept_on F f (child_at (subtree_ends nodes₀) i m) ((h.gave F f).1 m (omega arith)) (ℕ_discrete (child_at (subtree_ends nodes₀) i m) child)
          got F f m k (yes q) =
              let st : child_at (subtree_ends nodes₀) i m ≡ child = ap (child_at (subtree_ends nodes₀) i) q ∙ sym h.stands in
              ap (λ t. get_or (feasible_ranks (set nodes child n)) t 0) st ∙ child_has ∙ er ∙ sym (f j here) ∙ ap F (ap (child_at (subtree_ends nodes₀) i) (sym q))

  pub handing_done : length ks ≤ j → HandedDown x i p e nodes₀ nodes true
  handing_done l = record {
    only = h.only;
    case = (λ k m. h.low k (omega (arith, ap length ek)), λ F f. ((h.gave F f).0, λ k m. (h.gave F f).1 k (omega (arith, ap length ek))));
  }
