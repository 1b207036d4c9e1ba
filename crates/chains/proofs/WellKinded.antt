-- What well-kinded forests have: as many roots as kinds, a slot for every tie, and a node of the right kind in every slot.
use mathlib.Core.Path.{◌≡◌, refl, ap}
use mathlib.Core.Logic.{inl, inr}
use mathlib.Core.List.{List, [], ◌∷◌}
use Prim.Native.Nat.{ℕ, zero, suc, ◌+◌, ◌≤◌, ◌<◌}
use native.Mathlib.Omega.{arith}
use lib.ListN.{length, get_or}
use Rattle.chains.specs.Grammar.{Occ, Grammar, Lawful, Heads, Tied}
use Rattle.chains.specs.Tree.{Bush, nil, grow, size, count, Kinded, Root, Sub}
use Rattle.chains.proofs.Range.{root_count}
use Rattle.chains.proofs.Upward.{Fits}

module _ (G : Grammar) where
  -- as many trees as kinds
  pub kinded_count : (f : Bush) (ks : List ℕ) → Kinded G f ks → count f ≡ length ks
  kinded_count nil [] h = refl
  kinded_count nil (k ∷ ks) h = absurd h
  kinded_count (grow p cs rest) [] h = absurd h
  kinded_count (grow p cs rest) (k ∷ ks) h = ap suc (kinded_count rest ks h.2)

  pub root_kids : (cs : Bush) (ks : List ℕ) (n j m : ℕ) → Kinded G cs ks → Root cs n j m → j < length ks
  root_kids cs ks n j m k r = rw (kinded_count cs ks k) at (root_count cs n j m r)

  -- a lawful grammar's ties name slots that there are
  pub ties_slots : Lawful G → (p : ℕ) → p < G.prods → (o o' : Occ) → Tied G p o o' → (o.0 ≤ length (G.kids p)) × (o'.0 ≤ length (G.kids p))
  ties_slots L p h o o' t = let (e, e', u) = L.named p o o' h t in (omega (arith, e.0), omega (arith, e'.0))

  -- every well-kinded forest of a lawful grammar fits
  pub kinded_fits : Lawful G → (f : Bush) (ks : List ℕ) → Kinded G f ks → Fits G f
  kinded_fits L nil ks h = tt
  kinded_fits L (grow p cs rest) [] h = absurd h
  kinded_fits L (grow p cs rest) (k ∷ ks) h =
      (rw (kinded_count cs (G.kids p) h.1) (ties_slots L p h.0.0), kinded_fits L cs (G.kids p) h.1, kinded_fits L rest ks h.2)

  -- every node has a production of the grammar, and below it the children that the production asks for
  pub sub_kinded : (f : Bush) (ks : List ℕ) (n i q : ℕ) (ds : Bush) → Kinded G f ks → Sub f n i q ds → (q < G.prods) × Kinded G ds (G.kids q)
  sub_kinded nil ks n i q ds k s = absurd s
  sub_kinded (grow p cs rest) [] n i q ds k s = absurd k
  sub_kinded (grow p cs rest) (x ∷ ks) n i q ds k (inl (ei, ep, ec)) = rw (← ep, ← ec) (k.0.0, k.1)
  sub_kinded (grow p cs rest) (x ∷ ks) n i q ds k (inr (inl s)) = sub_kinded cs (G.kids p) (suc n) i q ds k.1 s
  sub_kinded (grow p cs rest) (x ∷ ks) n i q ds k (inr (inr s)) = sub_kinded rest ks (suc (n + size cs)) i q ds k.2 s

  pub sub_fits : (f : Bush) (n i q : ℕ) (ds : Bush) → Fits G f → Sub f n i q ds → Fits G (grow q ds nil)
  sub_fits nil n i q ds h s = absurd s
  sub_fits (grow p cs rest) n i q ds h (inl (ei, ep, ec)) = rw (← ep, ← ec) (h.0, h.1, tt)
  sub_fits (grow p cs rest) n i q ds h (inr (inl s)) = sub_fits cs (suc n) i q ds h.1 s
  sub_fits (grow p cs rest) n i q ds h (inr (inr s)) = sub_fits rest (suc (n + size cs)) i q ds h.2 s

  -- the j-th root is a node whose production has the j-th kind on its left
  pub root_kind : (f : Bush) (ks : List ℕ) (n j m : ℕ) → Kinded G f ks → Root f n j m
      → (q : ℕ) × (ds : Bush) × Sub f n m q ds × Heads G q (get_or ks j 0)
  root_kind nil ks n j m k r = absurd r
  root_kind (grow p cs rest) [] n j m k r = absurd k
  root_kind (grow p cs rest) (x ∷ ks) n zero m k r = (p, cs, inl (r, refl, refl), k.0)
  root_kind (grow p cs rest) (x ∷ ks) n (suc j) m k r =
      let (q, ds, s, h) = root_kind rest ks (suc (n + size cs)) j m k.2 r in
      (q, ds, inr (inr s), h)

  -- a forest of one kind is one tree
  pub one_tree : (f : Bush) (k n j m : ℕ) → Kinded G f (k ∷ []) → Root f n j m → (j ≡ 0) × (m ≡ n)
  one_tree nil k n j m h r = absurd r
  one_tree (grow p cs nil) k n zero m h r = (refl, r)
  one_tree (grow p cs nil) k n (suc j) m h r = absurd r
  one_tree (grow p cs (grow q ds rest)) k n j m h r = absurd h.2
