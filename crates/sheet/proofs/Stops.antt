-- The five ways in which reading stops, each with the lowest number that applies there.
use mathlib.Core.Path.{◌≡◌}
use mathlib.Core.Logic.{inl, inr}
use mathlib.Core.List.{List, [], ◌∷◌}
use Prim.Native.Nat.{ℕ, ◌<◌}
use native.Mathlib.Omega.{arith}
use lib.ListN.{length, get_or}
use Rattle.chains.specs.Limits.{max_levels}
use Rattle.chains.specs.Grammar.{Grammar, Heads}
use Rattle.sheet.specs.Reading.{Node, Read}
use Rattle.sheet.specs.Stops.{Unknown, Unfit, Fault, unknown, unfit, deep, Stop}

module _ {G : Grammar} {l : List ℕ} {i : ℕ} where
  pub stop_unknown : {ds : List Node} → Read G l i ds → Unknown G l i → Stop G l 21 i
  stop_unknown {ds} r u = record { awaited = ds; was_due = r; fault = unknown u; lowest = least }
    where
      least : (m : ℕ) → m < 21 → Fault G l i ds m → ⊥
      least m h (unknown x) = omega arith
      least m h (unfit x) = omega arith
      least m h (deep x) = omega arith

  pub stop_unfit : {ds : List Node} → Read G l i ds → Unfit G l i ds → (Unknown G l i → ⊥) → Stop G l 22 i
  stop_unfit {ds} r u known = record { awaited = ds; was_due = r; fault = unfit u; lowest = least }
    where
      least : (m : ℕ) → m < 22 → Fault G l i ds m → ⊥
      least m h (unknown x) = known x
      least m h (unfit x) = omega arith
      least m h (deep x) = omega arith

  pub stop_deep : {d : Node} {ds : List Node} → Read G l i (d ∷ ds) → i < length l → Heads G (get_or l i 0) d.0 → max_levels < d.1 → Stop G l 23 i
  stop_deep {d} {ds} r t q v = record { awaited = d ∷ ds; was_due = r; fault = deep (t, v); lowest = least }
    where
      least : (m : ℕ) → m < 23 → Fault G l i (d ∷ ds) m → ⊥
      least m h (unknown x) = omega (arith, q.0)
      least m h (unfit (inl x)) = omega arith
      least m h (unfit (inr x)) = x.1 q.1
      least m h (deep x) = omega arith

  pub stop_end : {d : Node} {ds : List Node} → Read G l i (d ∷ ds) → length l ≡ i → Stop G l 22 i
  stop_end r e = stop_unfit r (inl e) (λ u. omega arith)

  pub stop_kind : {d : Node} {ds : List Node} → Read G l i (d ∷ ds) → i < length l → get_or l i 0 < G.prods → (G.left (get_or l i 0) ≡ d.0 → ⊥) → Stop G l 22 i
  stop_kind r t p q = stop_unfit r (inr (t, q)) (λ u. omega arith)

  pub stop_left : Read G l i [] → i < length l → get_or l i 0 < G.prods → Stop G l 22 i
  stop_left r t p = stop_unfit r t (λ u. omega arith)
