-- Laws of a node's children: where they stand, and their counts and ranks as a read takes them.
use mathlib.Core.Path.{◌≡◌, sym, ap, subst, ◌∙◌}
use mathlib.Core.List.{List}
use Prim.Native.Nat.{ℕ, suc, ◌+◌, ◌≤◌, ◌<◌}
use native.Mathlib.Decide.{dec_lt}
use native.Mathlib.Numerals.{add-one}
use native.Mathlib.Omega.{arith}
use lib.Dec.{ltb}
use lib.ListN.{length, get_or, set, replicate, length-replicate, get_or-replicate}
use Rattle.std.proofs.lemmas.List.{map-set}
use borrow.Author.Tests.{lt-ltb, le-ltb}
use Rattle.lists.specs.Pick.{pick}
use Rattle.chains.specs.Limits.{max_kids, max_nodes}
use Rattle.ranks.specs.declared.Chosen.{Chosen}
use Rattle.ranks.specs.Reads.{counts_of, numbers}
use Rattle.ranks.specs.Padded.{CountsPadded}
use Rattle.numbering.specs.Parts.{child_at, Children, Kindred}
use Rattle.numbering.proofs.Building.{Building, building_none, building_turn}

-- ── where the children stand ──
pub child_low : {ends : List ℕ} {i k j at : ℕ} → Children ends i k → j < k → at ≡ child_at ends i j → at < max_nodes
child_low {j = j} c l e = omega (arith, c.each j l)

-- a child's end is within the list
pub end_low : {ends : List ℕ} {i k j at : ℕ} → Children ends i k → j < k → at ≡ child_at ends i j → get_or ends at 0 ≤ max_nodes
unfolding child_at
end_low {ends} {i} {k} {j} {at} c l e = omega (arith, ap (λ y. get_or ends y 0) e, go (dec_lt (suc j) k))
  where
    go : Dec (suc j < k) → get_or ends (child_at ends i j) 0 ≤ max_nodes
    go (yes y) = let h : get_or ends (child_at ends i j) 0 < max_nodes = c.each (suc j) y in omega arith
    go (no y) = let q : suc j ≡ k = omega arith in subst (λ m. child_at ends i m ≤ max_nodes) (sym q) c.last

pub child_first : (ends : List ℕ) (i : ℕ) → i + 1 ≡ child_at ends i 0
unfolding child_at
child_first ends i = add-one i

pub child_next : (ends : List ℕ) (i j : ℕ) {at x : ℕ} → at ≡ child_at ends i j → x ≡ get_or ends at 0 → x ≡ child_at ends i (j + 1)
unfolding child_at
child_next ends i j e f = f ∙ ap (λ y. get_or ends y 0) e ∙ ap (child_at ends i) (sym (add-one j))

-- ── the loop that gathers them: ks are their kinds, of which the first j have been looked at; child j stands at `at` ──
pub record Gathering (c plausible ends ks : List ℕ) (i : ℕ) (children : List Chosen) (at j : ℕ) : Type 0 where
  pub counts : Building (λ m. get_or c (get_or ks m 0) 0) (λ m. 1) max_kids (counts_of children) j
  pub ranks : Building (λ m. get_or plausible (child_at ends i m) 0) (λ m. 0) max_kids (numbers children) j
  pub stands : at ≡ child_at ends i j

pub gathering_none : {c plausible ends ks : List ℕ} {i : ℕ} → Gathering c plausible ends ks i (replicate max_kids (record { count = 1; rank = record { 0 = 0 } })) (i + 1) 0
gathering_none {ends = ends} {i = i} = record {
  counts = building_none _ _ max_kids (replicate max_kids 1) (length-replicate {A = ℕ} max_kids 1) (λ m h. get_or-replicate max_kids m 1 0 h);
  ranks = building_none _ _ max_kids (replicate max_kids 0) (length-replicate {A = ℕ} max_kids 0) (λ m h. get_or-replicate max_kids m 0 0 h);
  stands = child_first ends i;
}

module _ {c plausible ends ks : List ℕ} {i : ℕ} {children : List Chosen} {at j : ℕ} (k : Gathering c plausible ends ks i children at j) where
  pub gathering_turn : j < max_kids → (d : Chosen) → d.count ≡ get_or c (get_or ks j 0) 0 → get_or plausible at 0 ≡ d.rank.0 → {x : ℕ} → get_or ends at 0 ≡ x
      → Gathering c plausible ends ks i (set children j d) x (j + 1)
  gathering_turn h d ec er {x} ee = record {
    counts = subst (λ (l : List ℕ). Building (λ m. get_or c (get_or ks m 0) 0) (λ m. 1) max_kids l (j + 1)) (sym (map-set (λ (e : Chosen). e.count) children j d))
        (building_turn d.count k.counts h ec);
    ranks = subst (λ (l : List ℕ). Building (λ m. get_or plausible (child_at ends i m) 0) (λ m. 0) max_kids l (j + 1)) (sym (map-set (λ (e : Chosen). e.rank.0) children j d))
        (building_turn d.rank.0 k.ranks h (sym er ∙ ap (λ y. get_or plausible y 0) k.stands));
    stands = child_next ends i j k.stands (sym ee);
  }

  module _ {js : List ℕ} (e : ks ≡ js) (few : length ks ≤ max_kids) (all : j ≡ length ks) where
    pub counts_done : CountsPadded max_kids c js (counts_of children)
    counts_done =
        let d : CountsPadded max_kids c ks (counts_of children) = record { few = few; counts = λ m l. k.counts.done m (omega arith); ones = λ m l n. k.counts.rest m (omega arith) n } in
        subst (λ t. CountsPadded max_kids c t (counts_of children)) e d

    pub ranks_done : Kindred plausible ends i (length js) (numbers children) at
    ranks_done =
        let d : Kindred plausible ends i (length ks) (numbers children) at
        = record { long = k.ranks.long; each = λ m l. go m l (dec_lt m (length ks)); end_is = k.stands ∙ ap (child_at ends i) all } in
        subst (λ (t : List ℕ). Kindred plausible ends i (length t) (numbers children) at) e d
      where
        go : (m : ℕ) → m < max_kids → Dec (m < length ks) → get_or (numbers children) m 0 ≡ pick (ltb m (length ks)) (get_or plausible (child_at ends i m) 0) 0
        go m l (yes y) = k.ranks.done m (omega arith) ∙ rw (lt-ltb m (length ks) y)
        go m l (no y) = k.ranks.rest m (omega arith) l ∙ rw (le-ltb m (length ks) (omega arith))
