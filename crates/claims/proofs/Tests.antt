-- Tests that compute: what a test over all of some things says of each of them.
use mathlib.Core.Path.{◌≡◌, refl, ap₂}
use mathlib.Core.Logic.{inl, inr}
use mathlib.Core.Bool.{Bool, true, false, ◌&&◌}
use mathlib.Core.List.Memᴰ
use mathlib.Core.List.{List, [], ◌∷◌, Memᴰ}
use Prim.Native.Nat.{ℕ, zero, suc, ◌<◌}
use native.Mathlib.Omega.{arith}
use native.Mathlib.Decide.{dec_lt}
use borrow.Author.Tests.{eqb-true}
use lib.Dec.{eqb}
use lib.ListN.{get_or}
use Rattle.std.specs.List.{list_all}
use Rattle.std.proofs.lemmas.Bool.{false≢true, and_parts}
use Rattle.chains.specs.Grouping.{Members}

-- all numbers below n
unfoldable pub all_below : (ℕ → Bool) → ℕ → Bool
all_below f zero = true
all_below f (suc n) = f n && all_below f n

pub each_below : (f : ℕ → Bool) (n i : ℕ) → all_below f n ≡ true → i < n → f i ≡ true
unfolding all_below
each_below f zero i e h = absurd (omega arith)
each_below f (suc n) i e h =
    let (here, rest) = and_parts (f n) (all_below f n) e in
    elim (dec_lt i n) [ yes l ↦ each_below f n i rest l | no l ↦ (let z : i ≡ n = omega arith in rw z here) ]

-- all members of a list
pub each_in : {X : Type 0} (f : X → Bool) (l : List X) (x : X) → list_all f l ≡ true → Memᴰ x l → f x ≡ true
each_in f [] x e m = absurd (Memᴰ.not-nil m)
each_in f (y ∷ l) x e m =
    let (here, rest) = and_parts (f y) (list_all f l) e in
    elim (Memᴰ.cases_cons m) [ inl i ↦ rw i here | inr k ↦ each_in f l x rest k ]

-- all lists of ranks for the kinds ks, whose counts c has
unfoldable pub all_ranks : List ℕ → List ℕ → (List ℕ → Bool) → Bool
all_ranks c [] f = f []
all_ranks c (k ∷ ks) f = all_below (λ r. all_ranks c ks (λ rs. f (r ∷ rs))) (get_or c k 0)

pub each_ranks : (c ks : List ℕ) (f : List ℕ → Bool) (rs : List ℕ) → all_ranks c ks f ≡ true → Members (λ k r. r < get_or c k 0) ks rs → f rs ≡ true
unfolding all_ranks
each_ranks c [] f [] e m = e
each_ranks c [] f (r ∷ rs) e m = absurd m
each_ranks c (k ∷ ks) f [] e m = absurd m
each_ranks c (k ∷ ks) f (r ∷ rs) e m = each_ranks c ks (λ rs. f (r ∷ rs)) rs (each_below (λ r. all_ranks c ks (λ rs. f (r ∷ rs))) (get_or c k 0) r e m.0) m.1

-- two lists are one
unfoldable pub same : List ℕ → List ℕ → Bool
same [] [] = true
same [] (y ∷ m) = false
same (x ∷ l) [] = false
same (x ∷ l) (y ∷ m) = eqb x y && same l m

pub same_true : (l m : List ℕ) → same l m ≡ true → l ≡ m
unfolding same
same_true [] [] e = refl
same_true [] (y ∷ m) e = absurd (false≢true e)
same_true (x ∷ l) [] e = absurd (false≢true e)
same_true (x ∷ l) (y ∷ m) e = let (here, rest) = and_parts (eqb x y) (same l m) e in ap₂ ◌∷◌ (eqb-true x y here) (same_true l m rest)
