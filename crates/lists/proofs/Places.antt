-- Members of a list by their places, and the places of a rising list's members.
use mathlib.Core.Path.{◌≡◌, refl, sym, ap₂}
use mathlib.Core.Logic.{◌⊎◌, inl, inr, ⊎_elim}
use mathlib.Core.List.Memᴰ
use mathlib.Core.List.{List, [], ◌∷◌, Memᴰ}
use Prim.Native.Nat.{ℕ, zero, suc, ◌<◌}
use native.Mathlib.Omega.{arith}
use lib.ListN.{length, get_or}
use Rattle.lists.specs.Rising.{Rising, none, single, step}
use Rattle.lists.proofs.Order.{by_order}
use Rattle.lists.proofs.Rising.{least, rising_fewer}

-- what stands at a place is a member
pub member_at : (l : List ℕ) (i : ℕ) → i < length l → Memᴰ (get_or l i 0) l
member_at [] i h = absurd (omega arith)
member_at (x ∷ l) zero h = Memᴰ.head refl
member_at (x ∷ l) (suc i) h = Memᴰ.tail (member_at l i (omega arith))

-- y stands at some place of l
abbrev pub Stands : List ℕ → ℕ → Type 0
Stands l y = (i : ℕ) × (i < length l) × (get_or l i 0 ≡ y)

-- a member stands at a place
pub place_of : (l : List ℕ) {y : ℕ} → Memᴰ y l → Stands l y
place_of [] m = absurd (Memᴰ.not-nil m)
place_of (x ∷ l) {y} m = go (Memᴰ.cases_cons m) (λ k. place_of l k)
  where
    go : (y ≡ x) ⊎ Memᴰ y l → (Memᴰ y l → Stands l y) → Stands (x ∷ l) y
    go (inl e) f = (0, omega arith, sym e)
    go (inr k) f = let (i, h, e) = f k in (suc i, omega arith, e)

rest_rises : {x : ℕ} {l : List ℕ} → Rising (x ∷ l) → Rising l
rest_rises single = none
rest_rises (step g r) = r

-- a rising list rises from each place to each later one
pub rising_at : (l : List ℕ) (i j : ℕ) → Rising l → i < j → j < length l → get_or l i 0 < get_or l j 0
rising_at [] i j r h k = absurd (omega arith)
rising_at (x ∷ l) i zero r h k = absurd (omega arith)
rising_at (x ∷ l) zero (suc j) r h k = least x l r (member_at l j (omega arith))
rising_at (x ∷ l) (suc i) (suc j) r h k = rising_at l i j (rest_rises r) (omega arith) (omega arith)

-- THEOREM: a member of a rising list stands at one place
pub place_once : (l : List ℕ) (i j : ℕ) → Rising l → i < length l → j < length l → get_or l i 0 ≡ get_or l j 0 → i ≡ j
place_once l i j r h k e =
    by_order (i ≡ j) i j (λ q. q)
    (λ q. let z = rising_at l i j r q k in absurd (omega arith))
    (λ q. let z = rising_at l j i r q h in absurd (omega arith))

-- what is in a rising list with the head b, and not b, is in its tail
past_head : {b y : ℕ} {m : List ℕ} → (y ≡ b → ⊥) → Memᴰ y (b ∷ m) → Memᴰ y m
past_head n k = ⊎_elim (λ e. absurd (n e)) (λ j. j) (Memᴰ.cases_cons k)

-- a rising list's members are not below its head
not_below : (b y : ℕ) (m : List ℕ) → Rising (b ∷ m) → Memᴰ y (b ∷ m) → y < b → ⊥
not_below b y m r k h = ⊎_elim (λ e. omega arith) (λ j. let l = least b m r j in omega arith) (Memᴰ.cases_cons k)

-- THEOREM: a rising list whose members all stand in another of its length is that one
pub rising_whole : (l m : List ℕ) → Rising l → Rising m → ((y : ℕ) → Memᴰ y l → Memᴰ y m) → length l ≡ length m → l ≡ m
rising_whole [] [] r q f e = refl
rising_whole [] (b ∷ m) r q f e = absurd (omega arith)
rising_whole (a ∷ l) [] r q f e = absurd (omega arith)
rising_whole (a ∷ l) (b ∷ m) r q f e =
    by_order ((a ∷ l) ≡ (b ∷ m)) a b
    (λ h.
    let later : (y : ℕ) → Memᴰ y l → y ≡ b → ⊥ = λ y k z. let g = least a l r k in omega arith in
    ap₂ ◌∷◌ h (rising_whole l m (rest_rises r) (rest_rises q) (λ y k. past_head (later y k) (f y (Memᴰ.tail k))) (omega arith)))
    (λ h. absurd (not_below b a m q (f a (Memᴰ.head refl)) h))
    (λ h.
    let later : (y : ℕ) → Memᴰ y (a ∷ l) → y ≡ b → ⊥ = λ y k z. not_below a y l r k (omega arith) in
    let i = rising_fewer (a ∷ l) m r (rest_rises q) (λ y k. past_head (later y k) (f y k)) in
    absurd (omega arith))
