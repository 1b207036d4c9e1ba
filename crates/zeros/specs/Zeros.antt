-- What clearing and wiping leave of a slice.
use Rattle.std.specs.Prelude.{◌≡◌, Bool, List, ◌++◌, ℕ, min, length, drop, replicate}
use Rattle.lists.specs.Pick.{pick}

-- the first n places hold z, the rest are as they were
abbrev pub cleared_to : {A : Type 0} → A → ℕ → List A → List A
cleared_to z n s = replicate n z ++ drop n s

-- the first n places hold z, or all of them where there are fewer
abbrev pub ClearedTo : {A : Type 0} → A → ℕ → List A → List A → Type 0
ClearedTo z n s s' = s' ≡ cleared_to z (min n (length s)) s

-- every place holds z, or the slice is as it came
abbrev pub WipedTo : {A : Type 0} → A → Bool → List A → List A → Type 0
WipedTo z all s s' = s' ≡ pick all (replicate (length s) z) s

-- ── of numbers ──
-- the first n places are zero, the rest as they were
abbrev pub cleared : ℕ → List ℕ → List ℕ
cleared = cleared_to 0

-- THE PROMISE of clearing: the first n places are zero, or all of them where there are fewer
abbrev pub Cleared : ℕ → List ℕ → List ℕ → Type 0
Cleared = ClearedTo 0

-- THE PROMISE of wiping: every place is zero, or the slice is as it came
abbrev pub Wiped : Bool → List ℕ → List ℕ → Type 0
Wiped = WipedTo 0
