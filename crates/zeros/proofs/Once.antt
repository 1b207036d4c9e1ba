-- What each call leaves is one.
use mathlib.Core.Path.{◌≡◌, sym, ◌∙◌}
use mathlib.Core.Bool.{Bool}
use mathlib.Core.List.{List}
use Prim.Native.Nat.{ℕ}
use Rattle.zeros.specs.Zeros.{Cleared, Wiped}

pub clear_once : (n : ℕ) (s s₁ s₂ : List ℕ) → Cleared n s s₁ → Cleared n s s₂ → s₁ ≡ s₂
clear_once n s s₁ s₂ a b = a ∙ sym b

pub wipe_once : (all : Bool) (s s₁ s₂ : List ℕ) → Wiped all s s₁ → Wiped all s s₂ → s₁ ≡ s₂
wipe_once all s s₁ s₂ a b = a ∙ sym b
