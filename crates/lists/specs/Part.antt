-- A part of a list, and a list put over a part of another.
use Rattle.std.specs.Prelude.{List, ◌++◌, ℕ, ◌+◌, length, take, drop}

-- the n elements from base on
abbrev pub part : {A : Type 0} → ℕ → ℕ → List A → List A
part base n s = take n (drop base s)

-- s, with l put over what stands from base on
abbrev pub place : {A : Type 0} → ℕ → List A → List A → List A
place base l s = take base s ++ l ++ drop (base + length l) s
