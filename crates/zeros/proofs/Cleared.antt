-- A list whose first n places are cleared, place by place.
use mathlib.Core.Path.{◌≡◌, ap, ◌∙◌}
use mathlib.Core.List.{List}
use Prim.Native.Nat.{ℕ, ◌+◌, ◌-◌, ◌≤◌, ◌<◌, min}
use native.Mathlib.Omega.{arith}
use lib.ListN.{length, get_or, drop, replicate, length-append, length-drop, length-replicate, get_or-replicate, get_or-append}
use lib.Seq.{get_or-append-add, get_or-drop}
use Rattle.zeros.specs.Zeros.{cleared, Cleared}

module _ (n : ℕ) (s : List ℕ) where
  pub cleared_long : n ≤ length s → length (cleared n s) ≡ length s
  cleared_long h = rw (length-append, length-replicate, length-drop) (omega arith)

  pub cleared_at : (i : ℕ) → i < n → get_or (cleared n s) i 0 ≡ 0
  cleared_at i h = get_or-append (replicate n 0) (drop n s) 0 i (rw (length-replicate {A = ℕ} n 0) h) ∙ get_or-replicate n i 0 0 h

  pub cleared_past : (i : ℕ) → n ≤ i → get_or (cleared n s) i 0 ≡ get_or s i 0
  cleared_past i h =
      let e : i ≡ length (replicate {A = ℕ} n 0) + (i - n) = omega (arith, length-replicate {A = ℕ} n 0) in
      let d : n + (i - n) ≡ i = omega arith in
      ap (λ (k : ℕ). get_or (cleared n s) k 0) e ∙ get_or-append-add (replicate n 0) (drop n s) (i - n) 0
      ∙ get_or-drop n s (i - n) 0 ∙ ap (λ (k : ℕ). get_or s k 0) d

-- ── no more places than there are ──
pub clears : (n : ℕ) (s : List ℕ) {s' : List ℕ} → n ≤ length s → Cleared n s s' → s' ≡ cleared n s
clears n s h e = let m : min n (length s) ≡ n = omega arith in e ∙ ap (λ k. cleared k s) m
