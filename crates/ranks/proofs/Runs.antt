-- Runs of numbers, one after another from 0 on: the p-th of them has w p numbers.
use mathlib.Core.Path.{◌≡◌, ap}
use Prim.Native.Nat.{ℕ, zero, suc, ◌+◌, ◌*◌, ◌-◌, ◌≤◌, ◌<◌}
use native.Mathlib.Decide.{dec_lt}
use native.Mathlib.Omega.{arith}

-- where the p-th run starts
unfoldable pub starts : (ℕ → ℕ) → ℕ → ℕ
starts w zero = 0
starts w (suc p) = starts w p + w p

-- x stands in one of the first n runs
pub record InRun (w : ℕ → ℕ) (n x : ℕ) : Type 0 where
  pub run : ℕ
  pub place : ℕ
  pub run_below : run < n
  pub place_below : place < w run
  pub made : starts w run + place ≡ x

module _ (w : ℕ → ℕ) where
  -- a run ends where the next one starts, so before each later one
  pub starts_after : (p n : ℕ) → p < n → starts w p + w p ≤ starts w n
  unfolding starts
  starts_after p zero h = absurd (omega arith)
  starts_after p (suc n) h = go (dec_lt p n) (starts_after p n)
    where
      go : Dec (p < n) → (p < n → starts w p + w p ≤ starts w n) → starts w p + w p ≤ starts w n + w n
      go (yes l) earlier = omega (arith, earlier l)
      go (no l) earlier = let e : p ≡ n = omega arith in rw e (omega arith)

  pub run_once : (p t p' t' : ℕ) → t < w p → t' < w p' → starts w p + t ≡ starts w p' + t' → (p ≡ p') × (t ≡ t')
  run_once p t p' t' l l' e = go (dec_lt p p') (dec_lt p' p)
    where
      go : Dec (p < p') → Dec (p' < p) → (p ≡ p') × (t ≡ t')
      go (yes h) d = absurd (omega (arith, starts_after p p' h))
      go (no h) (yes h') = absurd (omega (arith, starts_after p' p h'))
      go (no h) (no h') = let q : p ≡ p' = omega arith in (q, omega (arith, ap (starts w) q))

  pub run_of : (n x : ℕ) → x < starts w n → InRun w n x
  unfolding starts
  run_of zero x h = absurd (omega arith)
  run_of (suc n) x h = go (dec_lt x (starts w n)) (run_of n x)
    where
      go : Dec (x < starts w n) → (x < starts w n → InRun w n x) → InRun w (suc n) x
      go (yes l) earlier =
          let i = earlier l in
          record { run = i.run; place = i.place; run_below = omega arith; place_below = i.place_below; made = i.made }
      go (no l) earlier = record { run = n; place = x - starts w n; run_below = omega arith; place_below = omega arith; made = omega arith }

  -- runs of at most m numbers
  pub starts_few : (m n : ℕ) → ((p : ℕ) → p < n → w p ≤ m) → starts w n ≤ n * m
  unfolding starts
  starts_few m zero h = omega arith
  starts_few m (suc n) h =
      let i = starts_few m n (λ p l. h p (omega arith)) in
      let l = h n (omega arith) in
      let e : suc n * m ≡ n * m + m = omega arith in
      omega arith
