-- Texts added one behind another.
use mathlib.Core.Path.{◌≡◌, sym, subst, ◌∙◌}
use mathlib.Core.List.{List, [], ◌++◌, append_assoc, append-nil}
use Prim.Native.Nat.{ℕ, ◌+◌, ◌≤◌}
use native.Mathlib.Omega.{arith}
use lib.ListN.{length, length-append}
use Rattle.text.specs.Texts.{AddedTo, fits, full}
use Rattle.groups.specs.Adding.{Adds, most_text}

pub added : {s w s' : List ℕ} → AddedTo most_text s w s' → Adds s w s'
added (fits g e) = record { room = λ _. e }
added (full g e) = record { room = λ r. absurd (omega arith) }

pub nothing : (s : List ℕ) → Adds s [] s
nothing s = record { room = λ _. sym (append-nil s) }

pub followed : {s v w s₁ s₂ : List ℕ} → Adds s v s₁ → Adds s₁ w s₂ → Adds s (v ++ w) s₂
followed {s} {v} {w} {s₁} {s₂} a b = record { room = go }
  where
    go : length s + length (v ++ w) ≤ most_text → s₂ ≡ s ++ (v ++ w)
    go g =
        let both = length-append v w in
        let e : s₁ ≡ s ++ v = a.room (omega arith) in
        let room : length s₁ + length w ≤ most_text = rw e (omega (arith, length-append s v)) in
        b.room room ∙ rw e (append_assoc s v w)

-- the same text, written otherwise
pub same_text : {s v w s' : List ℕ} → v ≡ w → Adds s v s' → Adds s w s'
same_text {s} {v} {w} {s'} e a = subst (λ (x : List ℕ). Adds s x s') e a

-- a text that was added to nothing, where it has room
pub held_all : {s w s' : List ℕ} → s ≡ [] → Adds s w s' → length w ≤ most_text → s' ≡ w
held_all {s} {w} {s'} e a g =
    let from : Adds [] w s' = subst (λ (x : List ℕ). Adds x w s') e a in
    from.room (omega arith)
