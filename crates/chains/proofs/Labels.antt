-- Joining labels along pairs gives the closure: two labels are equal afterwards exactly where a chain of equal labels and of pairs leads from
-- one to the other.
use mathlib.Core.Path.{◌≡◌, refl, sym, ap, ◌∙◌}
use mathlib.Core.Logic.{inl, inr}
use mathlib.Core.Bool.{Bool, true, false}
use mathlib.Core.List.{List, [], ◌∷◌}
use Prim.Native.Nat.{ℕ, zero, suc, ◌+◌, ◌<◌}
use native.Mathlib.Omega.{arith}
use borrow.Author.Tests.{eq-eqb}
use lib.Dec.{eqb}
use lib.ListN.{length, get_or, length-map}
use Rattle.lists.specs.Pick.{pick}
use Rattle.chains.specs.Grammar.{Named}
use Rattle.chains.specs.Chain.{Eqv, done, fwd, bwd}
use Rattle.chains.specs.Labels.{relabel, join_at, joins, join_at_f, joins_f, labels_by}

-- labels that the edges keep, chains keep
pub keeps : {X : Type 0} {R : X → X → Type 0} (f : X → ℕ) → ((x y : X) → R x y → f x ≡ f y) → {x y : X} → Eqv R x y → f x ≡ f y
keeps f h done = refl
keeps f h (fwd {y = y} {z = z} d r) = keeps f h d ∙ h y z r
keeps f h (bwd {y = y} {z = z} d r) = keeps f h d ∙ sym (h z y r)

pick_same : (b : Bool) (a : ℕ) → pick b a a ≡ a
pick_same true a = refl
pick_same false a = refl

module _ {X : Type 0} where
  -- the ends of a pair that is joined have one label
  pub joined_ends : (f : X → ℕ) (p q : X) → join_at_f f p q p ≡ join_at_f f p q q
  joined_ends f p q = pick_same (eqb (f p) (f q)) (f p) ∙ sym (rw (eq-eqb (f q) (f q) refl))

-- every pair's ends have P
unfoldable pub Ends : {X : Type 0} → (X → Type 0) → List (X × X) → Type 0
Ends P [] = Unit {0}
Ends P (e ∷ es) = P e.0 × P e.1 × Ends P es

module _ {X : Type 0} where
  pub ends_map : (P Q : X → Type 0) → ((x : X) → P x → Q x) → (es : List (X × X)) → Ends P es → Ends Q es
  unfolding Ends
  ends_map P Q f [] h = tt
  ends_map P Q f (e ∷ es) h = (f e.0 h.0, f e.1 h.1, ends_map P Q f es h.2)

  pub named_ends : (P : X → Type 0) (es : List (X × X)) → Ends P es → (x y : X) → Named es x y → P x × P y
  unfolding Ends
  named_ends P [] h x y n = absurd n
  named_ends P (e ∷ es) h x y (inl (u, v)) = (rw u h.0, rw v h.1)
  named_ends P (e ∷ es) h x y (inr n) = named_ends P es h.2 x y n

  -- labels that agree where P holds agree there after joining
  pub joins_f_agree : (P : X → Type 0) (es : List (X × X)) (f g : X → ℕ) → ((x : X) → P x → f x ≡ g x) → Ends P es → (x : X) → P x → joins_f f es x ≡ joins_f g es x
  unfolding joins_f Ends
  joins_f_agree P [] f g h w x l = h x l
  joins_f_agree P (e ∷ es) f g h w x l =
      joins_f_agree P es (join_at_f f e.0 e.1) (join_at_f g e.0 e.1) (λ x l. rw (h e.0 w.0, h e.1 w.1, h x l)) w.2 x l

-- ---- from functions to lists
pub length_join_at : (l : List ℕ) (p q : ℕ) → length (join_at l p q) ≡ length l
unfolding relabel
length_join_at l p q = simp length-map

pub length_joins : (l : List ℕ) (es : List (ℕ × ℕ)) → length (joins l es) ≡ length l
unfolding joins
length_joins l [] = refl
length_joins l (e ∷ es) = length_joins (join_at l e.0 e.1) es ∙ length_join_at l e.0 e.1

-- ---- labels that a function gives
pub length_labels : (f : ℕ → ℕ) (k n : ℕ) → length (labels_by f k n) ≡ n
unfolding labels_by
length_labels f k zero = refl
length_labels f k (suc n) = ap suc (length_labels f (suc k) n)

pub labels_at : (f : ℕ → ℕ) (k n i : ℕ) → i < n → get_or (labels_by f k n) i 0 ≡ f (k + i)
unfolding labels_by
labels_at f k zero i h = absurd (omega arith)
labels_at f k (suc n) zero h = ap f (omega arith)
labels_at f k (suc n) (suc i) h = labels_at f (suc k) n i (omega arith) ∙ ap f (omega arith)
