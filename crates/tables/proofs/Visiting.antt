-- A visit made: from the base of its production, with no state seen yet.
use mathlib.Core.Path.{◌≡◌, refl, subst}
use mathlib.Core.Logic.{inl}
use mathlib.Core.List.{List}
use Prim.Native.Nat.{ℕ, zero, suc}
use native.Mathlib.Omega.{arith}
use Rattle.std.specs.Prelude.{Bool, false, Result, Ok}
use Rattle.lists.proofs.Order.{by_order}
use Rattle.tables.specs.State.{based}
use Rattle.tables.specs.declared.seen.Level.{Level}
use Rattle.tables.specs.Visit.{size_of, code_of, chosen, Yields, Gathers, Reply, Barren}
use Rattle.members.specs.declared.Full.{Full}
use Rattle.tables.specs.declared.visit.Visit.{Visit}
use Rattle.tables.proofs.Memory.{kept_refl}
use Rattle.tables.proofs.Gathering.{fine_widen}

module _ (v : Visit) where
  -- where some turn has no code, nothing comes of any state
  none_yields : (j : ℕ) → Barren v j → (s : List ℕ) (x : ℕ) → Yields v j s x → ⊥
  unfolding Yields
  none_yields zero (i, b, e) s x y = omega arith
  none_yields (suc j) (i, b, e) s x (r, h, y) =
      by_order ⊥ i j (λ q. let z : size_of v j ≡ 0 = rw q at e in omega arith) (λ q. none_yields j (i, q, e) (chosen v j (code_of v j r) s) x y) (λ q. omega arith)

  pub visit_barren : (j : ℕ) (u s c : List ℕ) → Barren v j → Gathers v.kind (Yields v j u) s c s c (Ok false)
  visit_barren j u s c h n b f = record {
    fine = fine_widen (λ k x b m. inl m) f;
    kept = kept_refl n s c;
    case = (refl, refl, λ x y. absurd (none_yields j h u x y));
  }

  pub visit_done : (b : List ℕ) (at : ℕ) {s c u : List ℕ} → u ≡ based b at → {kept : List Level} {s' c' : List ℕ} {r : Result Bool Full} → Reply v v.opened u s c kept s' c' r → Gathers v.kind (Yields v v.opened (based b at)) s c s' c' r
  visit_done b at {s} {c} e {s' = s'} {c'} {r} p = subst (λ u. Gathers v.kind (Yields v v.opened u) s c s' c' r) e p.turned
