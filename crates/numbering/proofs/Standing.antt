-- Where the children of a node stand in its tree, by the ends of the subtrees, and their ranks by the array of ranks.
use mathlib.Core.Path.{◌≡◌, refl, sym, ap, ◌∙◌}
use mathlib.Core.Logic.{inl, inr}
use mathlib.Core.List.{List}
use Prim.Native.Nat.{ℕ, zero, suc, ◌+◌, ◌≤◌, ◌<◌}
use native.Mathlib.Nat.{add-zero}
use native.Mathlib.Decide.{dec_lt}
use native.Mathlib.Omega.{arith}
use lib.Dec.{ltb}
use lib.ListN.{length, get_or, get_or-eq_default}
use borrow.Author.Tests.{lt-ltb, le-ltb}
use Rattle.lists.specs.Pick.{pick}
use Rattle.chains.specs.Limits.{max_kids, max_nodes}
use Rattle.chains.specs.Grammar.{Grammar}
use Rattle.chains.specs.Tree.{Bush, nil, grow, size, count, Kinded, Root, Sub}
use Rattle.chains.proofs.Range.{root_in, root_exists}
use Rattle.chains.proofs.Nodes.{sub_in, sub_child}
use Rattle.chains.proofs.WellKinded.{kinded_count}
use Rattle.ranks.specs.Padded.{RanksPadded}
use Rattle.numbering.specs.Walk.{Tables, ranks}
use Rattle.numbering.specs.Visits.{rank_of}
use Rattle.numbering.specs.Parts.{child_at, Children, Kindred, Ended, Ranked}

-- ── positions ──
module _ (ends : List ℕ) (i : ℕ) where
  -- a forest at n, whose first root is the child s of the node i
  stands_from : (f : Bush) (n s : ℕ) → child_at ends i s ≡ n → Ended f n 0 ends → (j m : ℕ) → Root f n j m → child_at ends i (s + j) ≡ m
  unfolding child_at
  stands_from nil n s e h j m r = absurd r
  stands_from (grow p cs rest) n s e h zero m r = rw (add-zero s) (e ∙ sym r)
  stands_from (grow p cs rest) n s e h (suc j) m r =
      let k : suc s + j ≡ s + suc j = omega arith in
      let next : child_at ends i (suc s) ≡ suc (n + size cs) = ap (λ y. get_or ends y 0) e ∙ h n p cs (inl (refl, refl, refl)) (omega arith) in
      ap (child_at ends i) (sym k) ∙ stands_from rest (suc (n + size cs)) (suc s) next (λ a q ds t l. h a q ds (inr (inr t)) l) j m r

  ends_from : (f : Bush) (n s : ℕ) → child_at ends i s ≡ n → Ended f n 0 ends → child_at ends i (s + count f) ≡ n + size f
  unfolding child_at
  ends_from nil n s e h = rw (add-zero s, add-zero n) e
  ends_from (grow p cs rest) n s e h =
      let k : suc s + count rest ≡ s + suc (count rest) = omega arith in
      let z : suc (n + size cs) + size rest ≡ n + suc (size cs + size rest) = omega arith in
      let next : child_at ends i (suc s) ≡ suc (n + size cs) = ap (λ y. get_or ends y 0) e ∙ h n p cs (inl (refl, refl, refl)) (omega arith) in
      ap (child_at ends i) (sym k) ∙ ends_from rest (suc (n + size cs)) (suc s) next (λ a q ds t l. h a q ds (inr (inr t)) l) ∙ z

  module _ (ds : Bush) (h : Ended ds (suc i) 0 ends) where
    pub stands : (j m : ℕ) → Root ds (suc i) j m → child_at ends i j ≡ m
    unfolding child_at
    stands j m r = let z : 0 + j ≡ j = omega arith in ap (child_at ends i) (sym z) ∙ stands_from ds (suc i) 0 refl h j m r

    pub ends_at : child_at ends i (count ds) ≡ suc (i + size ds)
    unfolding child_at
    ends_at =
        let z : 0 + count ds ≡ count ds = omega arith in
        let y : suc i + size ds ≡ suc (i + size ds) = omega arith in
        ap (child_at ends i) (sym z) ∙ ends_from ds (suc i) 0 refl h ∙ y

    -- a child is a root of the forest below its parent
    pub child_root : (G : Grammar) (ks : List ℕ) → Kinded G ds ks → (j : ℕ) → j < length ks → Root ds (suc i) j (child_at ends i j)
    child_root G ks k j l =
        let (m, r) = root_exists ds (suc i) j (rw (kinded_count G ds ks k) l) in
        rw (stands j m r) r

    pub children_of : (G : Grammar) (ks : List ℕ) → Kinded G ds ks → length ks ≤ max_kids → i + size ds < max_nodes → Children ends i (length ks)
    children_of G ks k few room = record {
      few = few;
      inside = omega arith;
      each = λ j l. omega (arith, root_in ds (suc i) j (child_at ends i j) (child_root G ks k j l));
      last = omega (arith, ap (child_at ends i) (sym (kinded_count G ds ks k)) ∙ ends_at);
    }

-- what is known of a tree is known of the forest below a node
pub ended_below : (f ds : Bush) (i q k : ℕ) (ends : List ℕ) → Sub f 0 i q ds → k ≤ suc i → Ended f 0 k ends → Ended ds (suc i) 0 ends
ended_below f ds i q k ends s l h m p cs t z = h m p cs (sub_child f 0 i q ds m p cs s t) (omega (arith, (sub_in ds (suc i) m p cs t).0.0))

pub ranked_below : (G : Grammar) (T : Tables) (f ds : Bush) (i q k : ℕ) (plausible : List ℕ) → Sub f 0 i q ds → k ≤ suc i → Ranked G T f 0 k plausible
    → Ranked G T ds (suc i) 0 plausible
ranked_below G T f ds i q k plausible s l h m p cs t z = h m p cs (sub_child f 0 i q ds m p cs s t) (omega (arith, (sub_in ds (suc i) m p cs t).0.0))

-- ── ranks ──
module _ (G : Grammar) (T : Tables) where
  pub ranks_long : (f : Bush) → length (ranks G T f) ≡ count f
  unfolding ranks
  ranks_long nil = refl
  ranks_long (grow p cs rest) = ap suc (ranks_long rest)

  rank_at : (f : Bush) (n j m : ℕ) → Root f n j m → (q : ℕ) × (ds : Bush) × Sub f n m q ds × (get_or (ranks G T f) j 0 ≡ rank_of G T q ds)
  unfolding ranks
  rank_at nil n j m r = absurd r
  rank_at (grow p cs rest) n zero m r = (p, cs, inl (r, refl, refl), refl)
  rank_at (grow p cs rest) n (suc j) m r = let (q, ds, s, e) = rank_at rest (suc (n + size cs)) j m r in (q, ds, inr (inr s), e)

  module _ (ds : Bush) (ks plausible ends : List ℕ) (i : ℕ) (kinded : Kinded G ds ks) (ended : Ended ds (suc i) 0 ends)
      (ranked : Ranked G T ds (suc i) 0 plausible) where
    pub kin_long : length (ranks G T ds) ≡ length ks
    kin_long = ranks_long ds ∙ kinded_count G ds ks kinded

    -- the ranks gathered are those of the forest, padded
    pub kin_padded : {rs : List ℕ} {end : ℕ} → Kindred plausible ends i (length ks) rs end → RanksPadded max_kids (ranks G T ds) rs
    kin_padded {rs} k = record { long = k.long; same = λ j l. k.each j l ∙ go j (dec_lt j (length ks)) }
      where
        go : (j : ℕ) → Dec (j < length ks) → pick (ltb j (length ks)) (get_or plausible (child_at ends i j) 0) 0 ≡ get_or (ranks G T ds) j 0
        go j (yes y) =
            let r = child_root ends i ds ended G ks kinded j y in
            let (q, es, s, e) = rank_at ds (suc i) j (child_at ends i j) r in
            rw (lt-ltb j (length ks) y) (ranked (child_at ends i j) q es s (omega arith) ∙ sym e)
        go j (no y) = rw (le-ltb j (length ks) (omega arith)) (sym (get_or-eq_default (ranks G T ds) 0 (omega (arith, kin_long))))

    pub kin_end : {rs : List ℕ} {end : ℕ} → Kindred plausible ends i (length ks) rs end → end ≡ suc (i + size ds)
    kin_end k = k.end_is ∙ ap (child_at ends i) (sym (kinded_count G ds ks kinded)) ∙ ends_at ends i ds ended
