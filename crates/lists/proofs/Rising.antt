-- Rising lists: what a number carried into one changes, and that their members pin them.
use mathlib.Core.Path.{◌≡◌, refl, ap}
use mathlib.Core.Logic.{◌⊎◌, ⊎_elim, inl, inr}
use mathlib.Core.List.Memᴰ
use mathlib.Core.List.{List, [], ◌∷◌, Memᴰ}
use Prim.Native.Nat.{ℕ, suc, ◌<◌, ◌≤◌}
use native.Mathlib.Omega.{arith}
use borrow.Author.Tests.{eq-eqb, ne_eqb, lt-ltb, le-ltb}
use lib.ListN.{length}
use Rattle.lists.specs.Rising.{insert, Rising, none, single, step}
use Rattle.lists.proofs.Order.{by_order}

-- one step of the carrying
pub insert-eq : (c y : ℕ) (ys : List ℕ) → c ≡ y → insert c (y ∷ ys) ≡ y ∷ ys
unfolding insert
insert-eq c y ys h = simp (eq-eqb _ _ h)

pub insert-lt : (c y : ℕ) (ys : List ℕ) → c < y → insert c (y ∷ ys) ≡ c ∷ insert y ys
unfolding insert
insert-lt c y ys h = simp (ne_eqb c y (λ e. omega arith), lt-ltb _ _ h)

pub insert-gt : (c y : ℕ) (ys : List ℕ) → y < c → insert c (y ∷ ys) ≡ y ∷ insert c ys
unfolding insert
insert-gt c y ys h = simp (ne_eqb c y (λ e. omega arith), le-ltb c y (omega arith))

pub insert-nil : (c : ℕ) → insert c [] ≡ c ∷ []
unfolding insert
insert-nil c = refl

-- a member of the result is x, or was one
pub insert_mem : (x : ℕ) (l : List ℕ) {y : ℕ} → Memᴰ y (insert x l) → (y ≡ x) ⊎ Memᴰ y l
insert_mem x [] m = Memᴰ.cases_cons (rw insert-nil at m)
insert_mem x (z ∷ zs) {y} m =
    by_order ((y ≡ x) ⊎ Memᴰ y (z ∷ zs)) x z
    (λ e. inr (rw (insert-eq x z zs e) at m))
    (λ h. ⊎_elim inl
    (λ k. inr (⊎_elim Memᴰ.head Memᴰ.tail (insert_mem z zs k)))
    (Memᴰ.cases_cons (rw (insert-lt x z zs h) at m)))
    (λ h. ⊎_elim (λ e. inr (Memᴰ.head e))
    (λ k. ⊎_elim inl (λ j. inr (Memᴰ.tail j)) (insert_mem x zs k))
    (Memᴰ.cases_cons (rw (insert-gt x z zs h) at m)))

-- x is a member of the result
pub insert_has : (x : ℕ) (l : List ℕ) → Memᴰ x (insert x l)
insert_has x [] = rw insert-nil (Memᴰ.head refl)
insert_has x (z ∷ zs) =
    by_order (Memᴰ x (insert x (z ∷ zs))) x z
    (λ e. rw (insert-eq x z zs e) (Memᴰ.head e))
    (λ h. rw (insert-lt x z zs h) (Memᴰ.head refl))
    (λ h. rw (insert-gt x z zs h) (Memᴰ.tail (insert_has x zs)))

-- and what was a member is one
pub insert_keeps : (x : ℕ) (l : List ℕ) {y : ℕ} → Memᴰ y l → Memᴰ y (insert x l)
insert_keeps x [] m = elim m [ ]
insert_keeps x (z ∷ zs) {y} m =
    by_order (Memᴰ y (insert x (z ∷ zs))) x z
    (λ e. rw (insert-eq x z zs e) m)
    (λ h. rw (insert-lt x z zs h) (Memᴰ.tail (⊎_elim (λ e. Memᴰ.cast e (insert_has z zs)) (λ k. insert_keeps z zs k) (Memᴰ.cases_cons m))))
    (λ h. rw (insert-gt x z zs h) (⊎_elim Memᴰ.head (λ k. Memᴰ.tail (insert_keeps x zs k)) (Memᴰ.cases_cons m)))

-- what rises from above z rises from x below it
lower : {x z : ℕ} {zs : List ℕ} → x < z → Rising (z ∷ zs) → Rising (x ∷ zs)
lower h single = single
lower {x} {z} h (step {y = y} g r) = let l : x < y = omega arith in step l r

-- x carried in above b leaves b in front
under : (b x : ℕ) (l : List ℕ) → b < x → Rising (b ∷ l) → Rising (b ∷ insert x l)
under b x [] h r = rw insert-nil (step h single)
under b x (z ∷ zs) h (step g r) =
    by_order (Rising (b ∷ insert x (z ∷ zs))) x z
    (λ e. rw (insert-eq x z zs e) (step g r))
    (λ l. rw (insert-lt x z zs l) (step h (under x z zs l (lower l r))))
    (λ l. rw (insert-gt x z zs l) (step g (under z x zs l r)))

-- THEOREM: a rising list stays rising
pub insert_rising : (x : ℕ) (l : List ℕ) → Rising l → Rising (insert x l)
insert_rising x [] r = rw insert-nil single
insert_rising x (z ∷ zs) r =
    by_order (Rising (insert x (z ∷ zs))) x z
    (λ e. rw (insert-eq x z zs e) r)
    (λ h. rw (insert-lt x z zs h) (under x z zs h (lower h r)))
    (λ h. rw (insert-gt x z zs h) (under z x zs h r))

tail_rising : {x : ℕ} {l : List ℕ} → Rising (x ∷ l) → Rising l
tail_rising single = none
tail_rising (step g r) = r

-- the head lies below every later member
pub least : (b : ℕ) (m : List ℕ) {y : ℕ} → Rising (b ∷ m) → Memᴰ y m → b < y
least b [] r k = absurd (Memᴰ.not-nil k)
least b (z ∷ m) {y} (step g r) k =
    ⊎_elim (λ e. let h : b < y = omega arith in h) (λ j. let i = least z m r j in let h : b < y = omega arith in h) (Memᴰ.cases_cons k)

-- a member of the whole that is above the head is in the tail
beyond : {b y : ℕ} {m : List ℕ} → b < y → Memᴰ y (b ∷ m) → Memᴰ y m
beyond {b} {y} {m} h k = ⊎_elim (λ e. absurd (omega arith)) (λ j. j) (Memᴰ.cases_cons k)

-- no list that rises from b has a member below b
above : {a b : ℕ} {m : List ℕ} → a < b → Rising (b ∷ m) → Memᴰ a (b ∷ m) → ⊥
above {a} {b} {m} h r k = ⊎_elim (λ e. omega arith) (λ j. let i = least b m r j in omega arith) (Memᴰ.cases_cons k)

-- THEOREM: two rising lists with the same members are one list
pub rising_once : (l m : List ℕ) → Rising l → Rising m → ((y : ℕ) → Memᴰ y l → Memᴰ y m) → ((y : ℕ) → Memᴰ y m → Memᴰ y l) → l ≡ m
rising_once [] [] r q f g = refl
rising_once [] (b ∷ m) r q f g = absurd (Memᴰ.not-nil (g b (Memᴰ.head refl)))
rising_once (a ∷ l) [] r q f g = absurd (Memᴰ.not-nil (f a (Memᴰ.head refl)))
rising_once (a ∷ l) (b ∷ m) r q f g =
    by_order ((a ∷ l) ≡ (b ∷ m)) a b
    (λ e.
    let i : l ≡ m = rising_once l m (tail_rising r) (tail_rising q)
    (λ y k. beyond (rw e at (least a l r k)) (f y (Memᴰ.tail k)))
    (λ y k. beyond (rw (← e) at (least b m q k)) (g y (Memᴰ.tail k))) in
    cc)
    (λ h. absurd (above h q (f a (Memᴰ.head refl))))
    (λ h. absurd (above h r (g b (Memᴰ.head refl))))

-- THEOREM: a rising list is pinned by what its members are
pub pinned : (P : ℕ → Type 0) (l m : List ℕ) → Rising l → Rising m
    → ((y : ℕ) → Memᴰ y l → P y) → ((y : ℕ) → P y → Memᴰ y l)
    → ((y : ℕ) → Memᴰ y m → P y) → ((y : ℕ) → P y → Memᴰ y m) → l ≡ m
pinned P l m r q f g f' g' = rising_once l m r q (λ y k. g' y (f y k)) (λ y k. g y (f' y k))

not_later : {y : ℕ} {l : List ℕ} → Rising (y ∷ l) → Memᴰ y l → ⊥
not_later {y} {l} r m = let h = least y l r m in omega arith

-- a new one makes the list longer by one
pub insert_new : (x : ℕ) (l : List ℕ) → Rising l → (Memᴰ x l → ⊥) → length (insert x l) ≡ suc (length l)
insert_new x [] r n = rw insert-nil
insert_new x (z ∷ zs) r n =
    by_order (length (insert x (z ∷ zs)) ≡ suc (suc (length zs))) x z
    (λ e. absurd (n (Memᴰ.head e)))
    (λ h. rw (insert-lt x z zs h) (ap suc (insert_new z zs (tail_rising r) (not_later r))))
    (λ h. rw (insert-gt x z zs h) (ap suc (insert_new x zs (tail_rising r) (λ m. n (Memᴰ.tail m)))))

-- THEOREM: a rising list whose members all stand in another is no longer than it
pub rising_fewer : (l m : List ℕ) → Rising l → Rising m → ((y : ℕ) → Memᴰ y l → Memᴰ y m) → length l ≤ length m
rising_fewer [] m r q f = omega arith
rising_fewer (a ∷ l) [] r q f = absurd (Memᴰ.not-nil (f a (Memᴰ.head refl)))
rising_fewer (a ∷ l) (b ∷ m) r q f =
    by_order (suc (length l) ≤ suc (length m)) a b
    (λ e. let i = rising_fewer l m (tail_rising r) (tail_rising q) (λ y k. beyond (rw e at (least a l r k)) (f y (Memᴰ.tail k))) in omega arith)
    (λ h. absurd (above h q (f a (Memᴰ.head refl))))
    (λ h. let i = rising_fewer (a ∷ l) m r (tail_rising q) (λ y k. beyond (over h k) (f y k)) in omega arith)
  where
    over : {y : ℕ} → b < a → Memᴰ y (a ∷ l) → b < y
    over {y} h k = ⊎_elim (λ e. let g : b < y = omega arith in g) (λ j. let i = least a l r j in let g : b < y = omega arith in g) (Memᴰ.cases_cons k)
