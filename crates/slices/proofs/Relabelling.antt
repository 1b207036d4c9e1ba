-- A turn of relabelling: the label b becomes a, another one stays.
use Rattle.std.proofs.Common.{◌≡◌, ℕ, ◌+◌, ◌<◌, List, ◌++◌, map, length, take, drop, get_or, set, ap, ◌∙◌}
use Rattle.std.proofs.lemmas.Bool.{eq-eqb, ne_eqb}
use Rattle.std.proofs.lemmas.List.{get_or_default}
use Rattle.std.proofs.lemmas.List.Edits.{map_over_more}
use Rattle.chains.specs.Labels.{swap}

-- s₀ with its first i labels changed
abbrev pub relabelled : (a b i : ℕ) → List ℕ → List ℕ
relabelled a b i s₀ = map (swap a b) (take i s₀) ++ drop i s₀

module _ (a b i : ℕ) (s₀ : List ℕ) {s : List ℕ} (h : i < length s₀) (k : i < length s) (e : s ≡ relabelled a b i s₀) where
  written : (y : ℕ) → y ≡ swap a b (get_or s i 0) → set s i y ≡ relabelled a b (i + 1) s₀
  written y q = ap (set s i) q ∙ map_over_more (swap a b) s₀ s i (get_or s i 0) h e (get_or_default s i 0 _ k)

  pub changed : get_or s i 0 ≡ b → set s i a ≡ relabelled a b (i + 1) s₀
  changed q = written a (rw (eq-eqb (get_or s i 0) b q))

  pub passed : (get_or s i 0 ≡ b → ⊥) → set s i (get_or s i 0) ≡ relabelled a b (i + 1) s₀
  passed n = written (get_or s i 0) (rw (ne_eqb (get_or s i 0) b n))
