-- What applies first is one, and so is what is due.
use mathlib.Core.Path.{◌≡◌, refl, sym, ap, ap₂, ◌∙◌}
use mathlib.Core.Logic.{inl, inr}
use mathlib.Core.List.{List, [], ◌∷◌}
use Prim.Native.Nat.{ℕ}
use native.Mathlib.Omega.{arith}
use lib.ListN.{length}
use Rattle.lists.proofs.Order.{Order, less, equal, more, order}
use Rattle.lists.specs.Refusals.{Said, accepted, refused, Sooner, First, Due}

pub data Turns (l m : List ℕ) : Type 0 where
  sooner : Sooner l m → Turns l m
  same : l ≡ m → Turns l m
  later : Sooner m l → Turns l m

-- of two turns of one length one is sooner, or they are the same
pub turns : (l m : List ℕ) → length l ≡ length m → Turns l m
turns [] [] e = same refl
turns [] (y ∷ m) e = absurd (omega arith)
turns (x ∷ l) [] e = absurd (omega arith)
turns (x ∷ l) (y ∷ m) e = go (order x y) (turns l m (omega arith))
  where
    go : Order x y → Turns l m → Turns (x ∷ l) (y ∷ m)
    go (less h) t = sooner (inl h)
    go (more h) t = later (inl h)
    go (equal h) (sooner s) = sooner (inr (h, s))
    go (equal h) (same s) = same (ap₂ ◌∷◌ h s)
    go (equal h) (later s) = later (inr (sym h, s))

-- a table's turns are of one length, and a turn has one number and one place
pub record Orderly {K : Type 0} (turn : K → List ℕ) (number place : K → ℕ) : Type 0 where
  pub long : (j k : K) → length (turn j) ≡ length (turn k)
  pub one : (j k : K) → turn j ≡ turn k → (number j ≡ number k) × (place j ≡ place k)

module _ {K : Type 0} (turn : K → List ℕ) (Applies : K → Type 0) where
  pub first_once : ((j k : K) → length (turn j) ≡ length (turn k)) → (j k : K) → First turn Applies j → First turn Applies k → turn j ≡ turn k
  first_once long j k f g = go (turns (turn j) (turn k) (long j k))
    where
      go : Turns (turn j) (turn k) → turn j ≡ turn k
      go (sooner s) = absurd (g.1 j s f.0)
      go (same e) = e
      go (later s) = absurd (f.1 k s g.0)

-- THEOREM: two answers that are due by one table are the same answer
pub due_once : {K : Type 0} (turn : K → List ℕ) (number place : K → ℕ) (Applies : K → Type 0) (counts : List ℕ) → Orderly turn number place
    → (s t : Said) → Due turn number place Applies counts s → Due turn number place Applies counts t → s ≡ t
due_once turn number place Applies counts o (accepted cs) (accepted ds) a b = ap accepted (a.0 ∙ sym b.0)
due_once turn number place Applies counts o (accepted cs) (refused n p) a (k, en, ep, f) = absurd (a.1 k f.0)
due_once turn number place Applies counts o (refused n p) (accepted cs) (k, en, ep, f) a = absurd (a.1 k f.0)
due_once turn number place Applies counts o (refused n p) (refused m q) (j, en, ep, f) (k, em, eq, g) =
    let e = o.one j k (first_once turn Applies o.long j k f g) in
    ap₂ refused (sym en ∙ e.0 ∙ em) (sym ep ∙ e.1 ∙ eq)
