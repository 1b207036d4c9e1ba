-- The counts of the sets against their limit.
use Rattle.std.proofs.Common.{◌≡◌, ◌⊎◌, ◌↔◌, inl, inr, Bool, true, false, List, ℕ, ◌<◌, ◌≤◌, length, get_or, take, arith}
use Rattle.std.proofs.Math.Seq.{length-take-le, get_or-take}
use Rattle.chains.specs.Limits.{max_members}
use Rattle.numbering.specs.Promise.{BigCount}
use Rattle.numbering.specs.Parts.{grammar_in, tables_in}
use Rattle.numbering.specs.declared.call.Call.{Call}
use Rattle.numbering.proofs.Calls.{kinds_is}
use Rattle.book.specs.Reading.{told}

-- one of the counts is over the limit
abbrev Over : List ℕ → Type 0
Over counts = (k : ℕ) × (k < length counts) × (max_members < get_or counts k 0)

-- that of a kind is one of the first n
module _ (n : ℕ) (c : List ℕ) (long : n ≤ length c) where
  into : (k : ℕ) → k < n → max_members < get_or c k 0 → Over (take n c)
  into k h m = (k, omega (arith, length-take-le n c long), omega (arith, get_or-take n c k 0 h))

  out : Over (take n c) → (k : ℕ) × (k < n) × (max_members < get_or c k 0)
  out (k, h, m) = let h' : k < n = omega (arith, length-take-le n c long) in (k, h', omega (arith, get_or-take n c k 0 h'))

-- the counts of the plausible sets have been looked at first
pub too_many_else : (x : Call) {n : ℕ} {r s : Bool} → n ≡ told x.book.now 1 → ((r ≡ true) ↔ Over (take n x.tables.plausible_counts.now)) → r ≡ false
    → ((s ≡ true) ↔ Over (take n x.tables.feasible_counts.now)) → (s ≡ true) ↔ BigCount (grammar_in x) (tables_in x)
too_many_else x {n} {r} {s} e first none second = (
  λ t. let (k, h, m) = out n x.tables.feasible_counts.now (omega (arith, is, x.feasible_counted)) (second.0 t) in (k, omega (arith, is), inr m),
  λ (k, h, m). go k (omega (arith, is)) m,
)
  where
    is : n ≡ (grammar_in x).kinds
    is = kinds_is x e

    go : (k : ℕ) → k < n → (max_members < get_or x.tables.plausible_counts.now k 0) ⊎ (max_members < get_or x.tables.feasible_counts.now k 0) → s ≡ true
    go k h (inl m) = let t = first.1 (into n x.tables.plausible_counts.now (omega (arith, is, x.plausible_counted)) k h m) in cc
    go k h (inr m) = second.1 (into n x.tables.feasible_counts.now (omega (arith, is, x.feasible_counted)) k h m)
