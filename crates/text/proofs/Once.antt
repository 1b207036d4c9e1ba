-- The promises fix what they speak of: two outcomes of one are identical.
use Prim.Native.Nat.{ℕ}
use mathlib.Core.Path.{◌≡◌, sym, ◌∙◌}
use mathlib.Core.List.{List}
use native.Mathlib.Omega.{arith}
use Rattle.text.specs.Held.{Added, fits, full, Appended, behind, alone, through}
use Rattle.text.specs.Texts as texts
use Rattle.text.specs.Texts.{AddedTo, AppendedTo}

-- ── a buffer that is lent ──
pub add_once : {s w : List ℕ} {held : ℕ} {s₁ s₂ : List ℕ} {n₁ n₂ : ℕ} → Added s held w s₁ n₁ → Added s held w s₂ n₂ → (s₁ ≡ s₂) × (n₁ ≡ n₂)
add_once (fits h e a) (fits i f b) = (e ∙ sym f, a ∙ sym b)
add_once (fits h e a) (full i f b) = absurd (omega arith)
add_once (full h e a) (fits i f b) = absurd (omega arith)
add_once (full h e a) (full i f b) = (e ∙ sym f, a ∙ sym b)

pub append_once : {s w : List ℕ} {held : ℕ} {s₁ s₂ : List ℕ} {n₁ n₂ : ℕ} → Appended s held w s₁ n₁ → Appended s held w s₂ n₂ → (s₁ ≡ s₂) × (n₁ ≡ n₂)
append_once (behind h e a) (behind i f b) = (e ∙ sym f, a ∙ sym b)
append_once (behind h e a) (alone i j f b) = absurd (omega arith)
append_once (behind h e a) (through i j f b) = absurd (omega arith)
append_once (alone h j e a) (behind i f b) = absurd (omega arith)
append_once (alone h j e a) (alone i k f b) = (e ∙ sym f, a ∙ sym b)
append_once (alone h j e a) (through i k f b) = absurd (omega arith)
append_once (through h j e a) (behind i f b) = absurd (omega arith)
append_once (through h j e a) (alone i k f b) = absurd (omega arith)
append_once (through h j e a) (through i k f b) = (e ∙ sym f, a ∙ sym b)

-- ── a text ──
pub add_to_once : {n : ℕ} {s w s₁ s₂ : List ℕ} → AddedTo n s w s₁ → AddedTo n s w s₂ → s₁ ≡ s₂
add_to_once (texts.fits h e) (texts.fits i f) = e ∙ sym f
add_to_once (texts.fits h e) (texts.full i f) = absurd (omega arith)
add_to_once (texts.full h e) (texts.fits i f) = absurd (omega arith)
add_to_once (texts.full h e) (texts.full i f) = e ∙ sym f

pub append_to_once : {n : ℕ} {s w s₁ s₂ : List ℕ} → AppendedTo n s w s₁ → AppendedTo n s w s₂ → s₁ ≡ s₂
append_to_once (texts.behind h e) (texts.behind i f) = e ∙ sym f
append_to_once (texts.behind h e) (texts.alone i j f) = absurd (omega arith)
append_to_once (texts.behind h e) (texts.through i j f) = absurd (omega arith)
append_to_once (texts.alone h j e) (texts.behind i f) = absurd (omega arith)
append_to_once (texts.alone h j e) (texts.alone i k f) = e ∙ sym f
append_to_once (texts.alone h j e) (texts.through i k f) = absurd (omega arith)
append_to_once (texts.through h j e) (texts.behind i f) = absurd (omega arith)
append_to_once (texts.through h j e) (texts.alone i k f) = absurd (omega arith)
append_to_once (texts.through h j e) (texts.through i k f) = e ∙ sym f
