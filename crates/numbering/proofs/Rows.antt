-- The loop that tells of each node in three places.
use Rattle.std.proofs.Common.{◌≡◌, List, [], ◌∷◌, ◌++◌, ℕ, ◌+◌, ◌-◌, ◌*◌, ◌<◌, length, get_or, take, drop, refl, sym, ap, ap₂, ◌∙◌, arith, append_assoc, add-one}
use Rattle.std.proofs.Math.Seq.{take-suc, take_at, drop_at, take_all, length-take-le}
use Rattle.std.proofs.lemmas.List.{drop-drop}
use borrow.Rule.Slice.PartMut.{put_mid}
use Rattle.numbering.specs.Giving.{rows}
use Rattle.numbering.specs.declared.nodes.Node.{Node}
use Rattle.numbering.proofs.Keeping.{unread}

pub rows_append : (a b : List Node) → rows (a ++ b) ≡ rows a ++ rows b
rows_append [] b = refl
rows_append (n ∷ a) b = ap (λ t. n.plausible.0 ∷ n.feasible.0 ∷ n.entry ∷ t) (rows_append a b)

rows_long : (a : List Node) → length (rows a) ≡ 3 * length a
rows_long [] = refl
rows_long (n ∷ a) = omega (arith, rows_long a)

-- of the nodes the first i are told
pub record Telling (known : List Node) (s₀ s : List ℕ) (i : ℕ) : Type 0 where
  pub told : s ≡ rows (take i known) ++ drop (3 * i) s₀

pub telling_none : {known : List Node} {s : List ℕ} → Telling known s s 0
telling_none = record { told = refl }

module _ {known : List Node} {s₀ s : List ℕ} {i : ℕ} (t : Telling known s₀ s i) where
  pub telling_turn : i < length known → {ys : List ℕ} → ys ≡ rows (get_or known i unread ∷ []) → Telling known s₀ (put_mid (3 * i) (3 * i + 3 - 3 * i) s ys) (i + 1)
  telling_turn h {ys} e =
      let r = rows (take i known) in
      let long : length r ≡ 3 * i = rows_long (take i known) ∙ ap (λ n. 3 * n) (length-take-le i known (omega arith)) in
      let three : 3 * i + 3 - 3 * i ≡ 3 = omega arith in
      let next : 3 * i + 3 ≡ 3 * (i + 1) = omega arith in
      let front : take (3 * i) s ≡ r = ap (take (3 * i)) t.told ∙ take_at r _ (3 * i) long in
      let back : drop (3 * i + 3 - 3 * i) (drop (3 * i) s) ≡ drop (3 * (i + 1)) s₀
      = ap (λ n. drop n (drop (3 * i) s)) three ∙ ap (λ u. drop 3 (drop (3 * i) u)) t.told ∙ ap (drop 3) (drop_at r _ (3 * i) long) ∙ drop-drop 3 (3 * i) s₀ ∙ ap (λ n. drop n s₀) next in
      let row : rows (take (i + 1) known) ≡ r ++ ys
      = ap (λ n. rows (take n known)) (add-one i) ∙ ap rows (take-suc known i unread h) ∙ rows_append (take i known) (get_or known i unread ∷ []) ∙ ap (λ u. r ++ u) (sym e) in
      record { told = ap₂ (λ (a b : List ℕ). a ++ (ys ++ b)) front back ∙ sym (append_assoc r ys _) ∙ ap (λ u. u ++ drop (3 * (i + 1)) s₀) (sym row) }

  pub telling_done : i ≡ length known → s ≡ rows known ++ drop (3 * length known) s₀
  telling_done e = t.told ∙ ap₂ (λ (a : List Node) (n : ℕ). rows a ++ drop (3 * n) s₀) (take_all i known (omega arith)) e
