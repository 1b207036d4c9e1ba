-- From what is found to what is due by the call's table.
use mathlib.Core.Path.{◌≡◌, sym, subst}
use mathlib.Core.Logic.{◌⊎◌, inl, inr}
use mathlib.Core.List.{List, [], ◌∷◌}
use Prim.Native.Nat.{ℕ, ◌≤◌, ◌<◌}
use native.Mathlib.Decide.{dec_le}
use native.Mathlib.Omega.{arith}
use lib.ListN.{length}
use Rattle.lists.specs.Refusals.{accepted, refused, Sooner}
use Rattle.chains.specs.Tree.{size}
use Rattle.book.specs.Format.{grammar}
use Rattle.sheet.specs.Reading.{all_settings}
use Rattle.sheet.proofs.Accepted.{accepted_sheet}
use Rattle.admission.specs.Refusals as admission
use Rattle.admission.proofs.Turns.{row_number}
use Rattle.numbering.specs.Walk.{Tables}
use Rattle.numbering.specs.Promise.{Lent, TreeOf, BigCount, Applies, big_count, turn}
use Rattle.numbering.specs.Parts.{Fails}
use Rattle.numbering.specs.Admitting.{measures, Clear, Refuses}
use Rattle.numbering.proofs.Trees.{one_tree, tree_size}
use Rattle.numbering.proofs.Turns.{Row, earlier, bigs, reads, row, earlier_applies, read_applies, among_earlier, after_earlier, among_reads, one_place}

-- ── the admission's refusals ──
pub refuses_early : {b l : List ℕ} {T : Tables} {m : Lent} {n p : ℕ} → admission.AdmissionDue b l (measures T m) (refused n p) → Refuses b l T m n p
refuses_early {b} {l} {T} {m} {n} {p} ((n', p'), en, ep, (a, first)) =
    rw (sym en, sym ep) (p', (earlier_applies a, λ j s x. before j.0 j.1 j.2 s (row x)))
  where
    before : (k q s : ℕ) → Sooner (turn (k, q, s)) (turn (n', p', p')) → Row b l T m k q s → ⊥
    before k q s z (earlier x e) = first (k, q) (among_earlier k q n' p' (subst (λ (y : ℕ). Sooner (turn (k, q, y)) (turn (n', p', p'))) e z)) x
    before k q s z (bigs e f g x) = after_earlier q s n' p' p' (row_number a) (subst (λ (y : ℕ). Sooner (turn (y, q, s)) (turn (n', p', p'))) e z)
    before k q s z (reads e f x) = after_earlier q s n' p' p' (row_number a) (subst (λ (y : ℕ). Sooner (turn (y, q, s)) (turn (n', p', p'))) e z)

-- or none of them
long_enough : {n m : ℕ} → (n < m → ⊥) → m ≤ n
long_enough {n} {m} h = go (dec_le m n)
  where
    go : Dec (m ≤ n) → m ≤ n
    go (yes x) = x
    go (no x) = absurd (h (omega arith))

pub refuses_nothing : {b l : List ℕ} {T : Tables} {m : Lent} {n s : ℕ} → admission.AdmissionDue b l (measures T m) (accepted (n ∷ s ∷ []))
    → Clear b l T m × (n ≡ length l) × (s ≡ all_settings (grammar b) l)
refuses_nothing {b} {l} {T} {m} {n} {s} (e, none) =
    let (fits, en, es) = accepted_sheet b l n s (e, λ f a. none f (admission.of_sheet a)) in (
      record {
        none = λ k p a. none (k, p) a;
        fits = fits;
        plausible_counts = long_enough (λ h. none (9, 0) (admission.short_counts (inl h)));
        feasible_counts = long_enough (λ h. none (9, 0) (admission.short_counts (inr h)));
        nodes = long_enough (λ h. none (24, 0) (admission.short_room (inl h)));
        groups = long_enough (λ h. none (24, 0) (admission.short_room (inr h)));
      },
      en,
      es,
    )

-- ── 25, where none of the others applies ──
module _ {b l : List ℕ} {T : Tables} {m : Lent} (clear : Clear b l T m) where
  pub refuses_big : BigCount (grammar b) T → Refuses b l T m 25 0
  refuses_big h = (0, (big_count h, λ j s x. before j.0 j.1 j.2 s (row x)))
    where
      never : (q s : ℕ) → (s < 0) ⊎ ((s ≡ 0) × (q < 0)) → ⊥
      never q s (inl x) = omega arith
      never q s (inr x) = omega (arith, x.1)

      before : (k q s : ℕ) → Sooner (turn (k, q, s)) (turn (25, 0, 0)) → Row b l T m k q s → ⊥
      before k q s z (earlier x e) = clear.none k q x
      before k q s z (bigs e f g x) = never q s (among_reads q s 0 0 (subst (λ (y : ℕ). Sooner (turn (y, q, s)) (turn (25, 0, 0))) e z))
      before k q s z (reads e f x) = never q s (among_reads q s 0 0 (subst (λ (y : ℕ). Sooner (turn (y, q, s)) (turn (25, 0, 0))) e z))

  module _ (small : BigCount (grammar b) T → ⊥) (f : TreeOf (grammar b) l) where
    -- another tree of the sheet is the same
    same_fails : (g : TreeOf (grammar b) l) (p t : ℕ) → Fails (grammar b) T g.tree (length l) p t → Fails (grammar b) T f.tree (length l) p t
    same_fails g p t = subst (λ h. Fails (grammar b) T h (length l) p t) (one_tree g f)

    pub refuses_read : (p t : ℕ) → Fails (grammar b) T f.tree (size f.tree) p t
        → ((q s : ℕ) → s < t → Fails (grammar b) T f.tree (size f.tree) q s → ⊥) → Refuses b l T m 25 p
    refuses_read p t bad first = (t, (read_applies f bad', λ j s x. before j.0 j.1 j.2 s (row x)))
      where
        bad' : Fails (grammar b) T f.tree (length l) p t
        bad' = subst (λ n. Fails (grammar b) T f.tree n p t) (tree_size f) bad

        none : (q s : ℕ) → Fails (grammar b) T f.tree (length l) q s → (s < t) ⊎ ((s ≡ t) × (q < p)) → ⊥
        none q s x (inl h) = first q s h (subst (λ n. Fails (grammar b) T f.tree n q s) (sym (tree_size f)) x)
        none q s x (inr (e, h)) = omega (arith, one_place b l T f x bad' e)

        before : (k q s : ℕ) → Sooner (turn (k, q, s)) (turn (25, p, t)) → Row b l T m k q s → ⊥
        before k q s z (earlier x e) = clear.none k q x
        before k q s z (bigs e g h x) = small x
        before k q s z (reads e g x) = none q s (same_fails g q s x) (among_reads q s p t (subst (λ (y : ℕ). Sooner (turn (y, q, s)) (turn (25, p, t))) e z))

    pub nothing_applies : ((p t : ℕ) → Fails (grammar b) T f.tree (size f.tree) p t → ⊥) → (n p t : ℕ) → Applies b l T m n p t → ⊥
    nothing_applies good n p t a = go (row a)
      where
        go : Row b l T m n p t → ⊥
        go (earlier x e) = clear.none n p x
        go (bigs e g h x) = small x
        go (reads e g x) = good p t (subst (λ k. Fails (grammar b) T f.tree k p t) (sym (tree_size f)) (same_fails g p t x))
