-- Refusal 5, by a kind's number of settings a and its mask m.
use mathlib.Core.Path.{◌≡◌, ap, sym, ◌∙◌}
use mathlib.Core.Logic.{inl, inr}
use mathlib.Core.List.{List}
use Prim.Native.Nat.{ℕ, ◌/◌, ◌^◌, ◌≤◌, ◌<◌}
use native.Mathlib.Omega.{arith}
use Rattle.chains.specs.Limits.{max_settings}
use Rattle.book.specs.Format.{start, Bit, Laid, grammar}
use Rattle.book.specs.Reading.{settings_of, mask_of}
use Rattle.bookcheck.specs.Refusals.{BadKind}
use Rattle.bookcheck.proofs.Laying.{settings_is, inherits_is}
use Rattle.bookcheck.proofs.Bits.{some_bit, bit_above, none_above}

module _ {b : List ℕ} (l : Laid b) (k : ℕ) {a m : ℕ} (ea : a ≡ settings_of b k) (em : m ≡ mask_of b k) where
  pub many_settings : max_settings < a → BadKind (grammar b) k
  many_settings h = inl (omega (arith, settings_is l k))

  told_bit : (i : ℕ) → Bit m i ≡ (grammar b).inherits k i
  told_bit i = ap (λ x. Bit x i) em ∙ inherits_is l k i

  pub stray_bit : m < 2 ^ 8 → 0 < m / 2 ^ a → BadKind (grammar b) k
  stray_bit s h =
      let (i, u, e) = bit_above 8 m a s h in
      inr (inl (i, omega (arith, settings_is l k), sym (told_bit i) ∙ e))

  pub start_bit : m < 2 ^ 8 → k ≡ start b → 0 < m → BadKind (grammar b) k
  start_bit s q h =
      let (i, e) = some_bit 8 m s h in
      inr (inr (q, (i, sym (told_bit i) ∙ e)))

  pub fair_kind : a ≤ max_settings → m / 2 ^ a ≤ 0 → (k ≡ start b → m ≤ 0) → BadKind (grammar b) k → ⊥
  fair_kind s u h (inl v) = omega (arith, settings_is l k)
  fair_kind s u h (inr (inl (i, v, e))) = none_above m a i (omega arith) (omega (arith, settings_is l k)) (told_bit i ∙ e)
  fair_kind s u h (inr (inr (q, (i, e)))) =
      let z = h q in
      none_above m 0 i (omega arith) (omega arith) (told_bit i ∙ e)
