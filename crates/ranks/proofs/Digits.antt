-- A number r * m + t of a digit r that counts most and a rest t below m; every number below n * m is one, of a digit below n.
use Prim.Native.Nat.{ℕ, zero, suc, ◌+◌, ◌*◌, ◌/◌, ◌%◌, ◌<◌}
use native.Mathlib.Nat.{mul_comm}
use native.Mathlib.Omega.{arith}
use Rattle.std.proofs.lemmas.Nat.{mul-add-lt, div_below, mod_below}

pub digit_below : {n m : ℕ} (r t : ℕ) → r < n → t < m → r * m + t < n * m
digit_below {n} {m} r t h l = rw (mul_comm n m) (mul-add-lt r m t n h l)

positive : (n m x : ℕ) → x < n * m → 0 < m
positive n zero x h = absurd (omega (arith, mul_comm n 0))
positive n (suc m) x h = omega arith

pub first_below : (n m x : ℕ) → x < n * m → x / m < n
first_below n m x h = div_below x m n (positive n m x h) h

pub rest_below : (n m x : ℕ) → x < n * m → x % m < m
rest_below n m x h = mod_below x m (positive n m x h)
