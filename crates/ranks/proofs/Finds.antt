-- Two answers of a read that keep one promise are the same answer.
use mathlib.Core.Path.{◌≡◌, refl, sym, ap, ◌∙◌}
use mathlib.Core.List.{List}
use Prim.Native.Nat.{ℕ}
use native.Mathlib.Omega.{arith}
use Rattle.std.specs.Prelude.{Option, Some, None}
use Rattle.ranks.specs.declared.Plausible.{Plausible}
use Rattle.ranks.specs.declared.Feasible.{Feasible}
use Rattle.ranks.specs.Reads.{UpFinds, DownFinds, label_at, child_rank_at}

-- ── THEOREMS ──
pub read_up_once : (s : List ℕ) (e : ℕ) (r r' : Option Plausible) → UpFinds s e r → UpFinds s e r' → r ≡ r'
read_up_once s e (Some x) (Some y) h k = ap made (h.1 ∙ sym k.1)
  where
    made : ℕ → Option Plausible
    made n = Some (record { 0 = n })
read_up_once s e (Some x) None h k = absurd (omega (arith, h.0))
read_up_once s e None (Some y) h k = absurd (omega (arith, k.0))
read_up_once s e None None h k = refl

pub read_down_once : (s : List ℕ) (e : ℕ) (r r' : Option ℕ) → DownFinds s e r → DownFinds s e r' → r ≡ r'
read_down_once s e (Some x) (Some y) h k = ap Some (h.1 ∙ sym k.1)
read_down_once s e (Some x) None h k = absurd (omega (arith, h.0))
read_down_once s e None (Some y) h k = absurd (omega (arith, k.0))
read_down_once s e None None h k = refl

feasible_once : {x : ℕ} (r r' : Feasible) → r.0 ≡ x → r'.0 ≡ x → r ≡ r'
feasible_once r r' h h' = ap made (h ∙ sym h')
  where
    made : ℕ → Feasible
    made y = record { 0 = y }

pub child_rank_once : (s : List ℕ) (e j : ℕ) (r r' : Feasible) → r.0 ≡ child_rank_at s e j → r'.0 ≡ child_rank_at s e j → r ≡ r'
child_rank_once s e j r r' h h' = feasible_once r r' h h'

pub label_once : (s : List ℕ) (e o x x' : ℕ) → x ≡ label_at s e o → x' ≡ label_at s e o → x ≡ x'
label_once s e o x x' h h' = h ∙ sym h'

pub started_once : (p : Plausible) (r r' : Feasible) → r.0 ≡ p.0 → r'.0 ≡ p.0 → r ≡ r'
started_once p r r' h h' = feasible_once r r' h h'
