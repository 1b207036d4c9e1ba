-- Laws of reading: what is due at a position is one thing, and each byte read stood where it was due.
use mathlib.Core.Path.{◌≡◌, sym, ap, subst, ◌∙◌}
use mathlib.Core.List.{List, [], ◌∷◌, ◌++◌}
use Prim.Native.Nat.{ℕ, zero, suc, ◌+◌, ◌≤◌, ◌<◌}
use native.Mathlib.Decide.{dec_lt}
use native.Mathlib.Omega.{arith}
use lib.ListN.{length, get_or, take}
use Rattle.chains.specs.Limits.{max_levels}
use Rattle.chains.specs.Grammar.{Grammar, Heads}
use Rattle.sheet.specs.Reading.{Node, due, Read, begun, further, all_settings}

-- byte i stood where it was due
pub record Passed (G : Grammar) (l : List ℕ) (i : ℕ) : Type 0 where
  pub kind : ℕ
  pub level : ℕ
  pub rest : List Node
  pub was_due : Read G l i ((kind, level) ∷ rest)
  pub there : i < length l
  pub heads : Heads G (get_or l i 0) kind
  pub shallow : level ≤ max_levels

-- what is due once the first node due has come with production p
abbrev after : Grammar → ℕ → List Node → List Node
after G p [] = []
after G p (d ∷ ds) = due (suc d.1) (G.kids p) ++ ds

module _ {G : Grammar} {l : List ℕ} where
  -- what is due after i bytes is one list
  pub read_once : {i : ℕ} {ds es : List Node} → Read G l i ds → Read G l i es → ds ≡ es
  read_once (begun e) (begun f) = e ∙ sym f
  read_once (further {i = i} r h q v e) (further s j p w f) = e ∙ ap (after G (get_or l i 0)) (read_once r s) ∙ sym f

  pub passed : {i n : ℕ} {ds : List Node} → Read G l n ds → i < n → Passed G l i
  passed (begun e) h = absurd (omega arith)
  passed {i} (further {i = m} {k = k} {v = v} {rest = rest} r t q s e) h = go (dec_lt i m) (λ j. passed r j)
    where
      go : Dec (i < m) → (i < m → Passed G l i) → Passed G l i
      go (yes j) before = before j
      go (no j) before =
          let e : m ≡ i = omega arith in
          let last : Passed G l m = record { kind = k; level = v; rest = rest; was_due = r; there = t; heads = q; shallow = s } in
          subst (Passed G l) e last

  -- no more bytes are read than there are
  pub read_within : {n : ℕ} {ds : List Node} → Read G l n ds → n ≤ length l
  read_within (begun e) = omega arith
  read_within (further r t q s e) = omega arith

-- one byte more, and its node's settings
pub settings_next : (G : Grammar) (l : List ℕ) (i : ℕ) → i < length l
    → all_settings G (take (suc i) l) ≡ all_settings G (take i l) + G.settings (G.left (get_or l i 0))
unfolding all_settings
settings_next G [] i h = absurd (omega arith)
settings_next G (p ∷ l) zero h = omega arith
settings_next G (p ∷ l) (suc i) h = let e = settings_next G l i (omega arith) in omega arith
