-- A list that carries another from some place on.
use mathlib.Core.Path.{◌≡◌, sym, ◌∙◌, subst}
use mathlib.Core.List.{List, [], ◌∷◌, ◌++◌}
use Prim.Native.Nat.{ℕ, suc, ◌+◌, ◌<◌}
use native.Mathlib.Omega.{arith}
use native.Mathlib.Decide.{dec_lt}
use lib.ListN.{length, get_or, length-append, get_or-append}
use lib.Seq.{get_or-append-add, get_or-append_seam}

-- l has xs from the place at on
abbrev pub Carries : List ℕ → ℕ → List ℕ → Type 0
Carries l at xs = (j : ℕ) → j < length xs → get_or l (at + j) 0 ≡ get_or xs j 0

pub carries_whole : (xs ys : List ℕ) → Carries (xs ++ ys) 0 xs
carries_whole xs ys j h = let e : 0 + j ≡ j = omega arith in rw e (get_or-append xs ys 0 j h)

module _ (l : List ℕ) (at : ℕ) where
  pub carries_first : (x : ℕ) (xs : List ℕ) → Carries l at (x ∷ xs) → get_or l at 0 ≡ x
  carries_first x xs h = let e : at + 0 ≡ at = omega arith in rw e at (h 0 (omega arith))

  pub carries_rest : (x : ℕ) (xs : List ℕ) → Carries l at (x ∷ xs) → Carries l (suc at) xs
  carries_rest x xs h j k = let e : at + suc j ≡ suc at + j = omega arith in rw e at (h (suc j) (omega arith))

  -- of two lists in a row, the one in front and the one behind
  pub carries_front : (xs ys : List ℕ) → Carries l at (xs ++ ys) → Carries l at xs
  carries_front xs ys h j k = h j (rw length-append (omega arith)) ∙ get_or-append xs ys 0 j k

  pub carries_back : (xs ys : List ℕ) → Carries l at (xs ++ ys) → Carries l (at + length xs) ys
  carries_back xs ys h j k =
      let e : at + (length xs + j) ≡ at + length xs + j = omega arith in
      let m : length xs + j < length (xs ++ ys) = rw length-append (omega arith) in
      rw e at (h (length xs + j) m) ∙ get_or-append-add xs ys j 0

  -- the same place, told otherwise
  pub carries_at : (to : ℕ) (xs : List ℕ) → at ≡ to → Carries l at xs → Carries l to xs
  carries_at to xs e h = subst (λ n. Carries l n xs) e h

  -- one more behind
  pub carries_snoc : (xs : List ℕ) (x : ℕ) → Carries l at xs → get_or l (at + length xs) 0 ≡ x → Carries l at (xs ++ x ∷ [])
  carries_snoc xs x h e j k = go (dec_lt j (length xs))
    where
      go : Dec (j < length xs) → get_or l (at + j) 0 ≡ get_or (xs ++ x ∷ []) j 0
      go (yes m) = h j m ∙ sym (get_or-append xs (x ∷ []) 0 j m)
      go (no m) =
          let i : j ≡ length xs = omega (arith, length-append xs (x ∷ [])) in
          rw i (e ∙ sym (get_or-append_seam xs x [] 0))
