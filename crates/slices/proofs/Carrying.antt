-- The loop that carries a number into a run of numbers: what holds at its head, how a turn keeps it, and what it comes to at each of its ends.
use Rattle.std.proofs.Common.{◌≡◌, ℕ, ◌+◌, ◌-◌, ◌≤◌, ◌<◌, true, false, List, [], ◌∷◌, ◌++◌, length, take, drop, get_or, set, sym, ap, ◌∙◌, arith, add-one, append_assoc, length-append, take-append-drop, drop-cons}
use Rattle.std.proofs.lemmas.List.{set-get_or, take_more_set, drop-set-lt, take_all, drop_all, drop-drop}
use borrow.Rule.Slice.PartMut.{put_mid}
use Rattle.lists.specs.Part.{part, place}
use Rattle.lists.specs.Rising.{insert}
use Rattle.lists.specs.Inserted.{Inserted}
use Rattle.lists.proofs.Rising.{insert-eq, insert-lt, insert-gt, insert-nil}
use Rattle.lists.proofs.Carry.{placed}

-- of the run l₀ the first i numbers have taken x in, which gives l, but for carry, which goes on
pub record Carrying (l₀ : List ℕ) (x : ℕ) (l : List ℕ) (carry i : ℕ) : Type 0 where
  pub behind : drop i l ≡ drop i l₀
  pub so_far : take i l ++ insert carry (drop i l₀) ≡ insert x l₀

module _ {l₀ : List ℕ} {x : ℕ} {l : List ℕ} {c i : ℕ} (h : Carrying l₀ x l c i) where
  module _ (w : i < length l) (w₀ : i < length l₀) where
    -- what is read is what stood there, and what is behind it stands there still
    seen : drop i l₀ ≡ get_or l i 0 ∷ drop (i + 1) l₀
    seen =
        let q : get_or l₀ i 0 ≡ get_or l i 0 = cc (drop-cons l i 0 w, drop-cons l₀ i 0 w₀, h.behind) in
        rw (add-one, ← q) (drop-cons l₀ i 0 w₀)

    next : drop (i + 1) l ≡ drop (i + 1) l₀
    next = rw add-one (cc (drop-cons l i 0 w, drop-cons l₀ i 0 w₀, h.behind))

    turn : (v d : ℕ) → insert c (get_or l i 0 ∷ drop (i + 1) l₀) ≡ v ∷ insert d (drop (i + 1) l₀) → Carrying l₀ x (set l i v) d (i + 1)
    turn v d e = record {
      behind = drop-set-lt (i + 1) l i v (omega arith) ∙ next;
      so_far = rw (take_more_set l i v w, append_assoc) (ap (λ t. take i l ++ t) (sym e ∙ ap (insert c) (sym seen)) ∙ h.so_far);
    }

    pub swapped : c < get_or l i 0 → Carrying l₀ x (set l i c) (get_or l i 0) (i + 1)
    swapped g = turn c (get_or l i 0) (insert-lt c _ _ g)

    pub passed : get_or l i 0 < c → Carrying l₀ x (set l i (get_or l i 0)) c (i + 1)
    passed g = turn (get_or l i 0) c (insert-gt c _ _ g)

    -- x stands there already
    pub found : c ≡ get_or l i 0 → set l i (get_or l i 0) ≡ insert x l₀
    found g =
        let e : insert c (drop i l₀) ≡ drop i l = ap (insert c) seen ∙ insert-eq c _ _ g ∙ sym seen ∙ sym h.behind in
        set-get_or l i 0 ∙ sym (take-append-drop i l) ∙ ap (λ t. take i l ++ t) (sym e) ∙ h.so_far

  -- the end of the run
  pub ended : length l ≤ i → length l₀ ≤ i → l ++ c ∷ [] ≡ insert x l₀
  ended a b =
      let e : insert c (drop i l₀) ≡ c ∷ [] = rw (drop_all i l₀ b) (insert-nil c) in
      ap (λ t. t ++ c ∷ []) (sym (take_all i l a)) ∙ ap (λ t. take i l ++ t) (sym e) ∙ h.so_far

-- ── the run in its list ──
module _ (s : List ℕ) (base n x : ℕ) (r : base + n < length s) (l : List ℕ) (e : length l ≡ n) where
  back : put_mid base (base + n - base) s l ≡ place base l s
  back = let d : base + (base + n - base) ≡ base + length l = omega arith in rw (drop-drop, d, append_assoc)

  run : take (base + n - base) (drop base s) ≡ part base n s
  run = let d : base + n - base ≡ n = omega arith in ap (λ k. take k (drop base s)) d

  pub none_more : l ≡ insert x (take (base + n - base) (drop base s)) → Inserted base n x s (put_mid base (base + n - base) s l) false
  none_more q =
      let w : l ≡ insert x (part base n s) = q ∙ ap (insert x) run in
      record { held = back ∙ ap (λ u. place base u s) w; more = ap length (sym w) ∙ omega arith }

  pub one_more : (c : ℕ) → l ++ c ∷ [] ≡ insert x (take (base + n - base) (drop base s)) → Inserted base n x s (set (put_mid base (base + n - base) s l) (base + n) c) true
  one_more c q =
      let w : l ++ c ∷ [] ≡ insert x (part base n s) = q ∙ ap (insert x) run in
      let d : base + n ≡ base + length l = omega arith in
      record {
        held = rw (back, d) (placed s base l (omega arith) c) ∙ ap (λ u. place base u s) w;
        more = ap length (sym w) ∙ rw length-append (omega arith);
      }
