-- Attempts one after another: each brings something about, which lasts, until all are made or some set is over-full.
use mathlib.Core.Path.{refl, ◌∙◌}
use mathlib.Core.Bool.{Bool, true, false, ◌||◌}
use mathlib.Core.List.{List}
use Prim.Native.Nat.{ℕ, ◌+◌, ◌<◌}
use native.Mathlib.Omega.{arith}
use borrow.Author.Count.{below_more}
use Rattle.std.specs.Prelude.{Ok, Err}
use Rattle.tables.specs.Memory.{Fine, Turned}
use Rattle.members.specs.declared.Full.{Full}
use Rattle.tables.proofs.Memory.{kept_refl, kept_trans, Lasts}

-- where no set is over-full, what a turn was to bring about holds
pub turned_done : {n : ℕ} {P : ℕ → ℕ → Type 0} {D : Type 0} {s c s' c' : List ℕ} (added : Bool) → Turned n P D s c s' c' (Ok added) → D
turned_done false u = u.case.2
turned_done true u = u.case.1

-- p attempts from s₀, c₀ have been made, and no set is over-full: what each was to bring about holds
abbrev pub Round : (n : ℕ) (P : ℕ → ℕ → Type 0) (D : List ℕ → List ℕ → ℕ → Type 0) (s₀ c₀ s c : List ℕ) (added : Bool) (p : ℕ) → Type 0
Round n P D s₀ c₀ s c added p = Turned n P ((i : ℕ) → i < p → D s c i) s₀ c₀ s c (Ok added)

module _ {n : ℕ} {P : ℕ → ℕ → Type 0} (D : List ℕ → List ℕ → ℕ → Type 0) {s₀ c₀ s c s' c' : List ℕ} {p : ℕ} where
  -- one more
  pub round_next : (a b : Bool) → Lasts n D → Round n P D s₀ c₀ s c a p → Turned n P (D s' c' p) s c s' c' (Ok b) → Round n P D s₀ c₀ s' c' (a || b) (p + 1)
  round_next false false lasts h u =
      let (x, y, d) = h.case in
      let (x', y', d') = u.case in
      record { fine = u.fine; kept = kept_trans h.kept u.kept; case = (x' ∙ x, y' ∙ y, below_more _ _ (λ i l. lasts s c s' c' i u.kept (d i l)) d') }
  round_next false true lasts h u =
      let (x, y, d) = h.case in
      let (w, d') = u.case in
      let q = h.kept.less in
      record { fine = u.fine; kept = kept_trans h.kept u.kept; case = (omega arith, below_more _ _ (λ i l. lasts s c s' c' i u.kept (d i l)) d') }
  round_next true false lasts h u =
      let (w, d) = h.case in
      let (x, y, d') = u.case in
      let q = u.kept.less in
      record { fine = u.fine; kept = kept_trans h.kept u.kept; case = (omega arith, below_more _ _ (λ i l. lasts s c s' c' i u.kept (d i l)) d') }
  round_next true true lasts h u =
      let (v, d) = h.case in
      let (w, d') = u.case in
      record { fine = u.fine; kept = kept_trans h.kept u.kept; case = (omega arith, below_more _ _ (λ i l. lasts s c s' c' i u.kept (d i l)) d') }

-- the last, where some set is over-full
pub round_full : {n : ℕ} {P : ℕ → ℕ → Type 0} {D E F : Type 0} {s₀ c₀ s c s' c' : List ℕ} {a : Bool} {o o' : Full} → Turned n P D s₀ c₀ s c (Ok a) → Turned n P E s c s' c' (Err o)
    → Turned n P F s₀ c₀ s' c' (Err o')
round_full h u = record { fine = u.fine; kept = kept_trans h.kept u.kept; case = u.case }
