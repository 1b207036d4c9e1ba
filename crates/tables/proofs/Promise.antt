-- The promise of the build pins its answer and all memory that is lent to it.
use mathlib.Core.Path.{◌≡◌, refl, sym, ap, ap₂, ◌∙◌, subst, subst₂}
use mathlib.Core.Logic.{inl, inr}
use mathlib.Core.List.{List}
use Prim.Native.Nat.{ℕ, ◌*◌, ◌≤◌, ◌<◌}
use native.Mathlib.Omega.{arith}
use lib.ListN.{length, get_or}
use Rattle.lists.specs.Refusals.{Said, accepted, refused, First}
use Rattle.lists.proofs.Refusals.{first_once}
use Rattle.chains.specs.Limits.{max_members}
use Rattle.book.specs.Format.{kinds, prods, grammar}
use Rattle.bookcheck.specs.Refusals as book
use Rattle.ranks.specs.Entries.{entry_bytes}
use Rattle.tables.specs.Entries.{UpTable, DownTable}
use Rattle.tables.specs.Promise.{Lent, up_entries, down_entries, Applies, of_book, short_slice, left_by, Written, Built, BuildDue}
use Rattle.tables.proofs.Holds.{holds_fine, holds_once}
use Rattle.tables.proofs.Entries.{written_once, up_once, down_once}

-- ── what it means that no refusal applies ──
module _ {b : List ℕ} {m : Lent} (free : (n p : ℕ) → Applies b m n p → ⊥) where
  pub plausible_there : kinds b * max_members ≤ length m.plausible
  plausible_there = let z : length m.plausible < kinds b * max_members → ⊥ = λ h. free 9 0 (short_slice (inl h)) in omega arith

  pub plausible_here : kinds b ≤ length m.plausible_counts
  plausible_here = let z : length m.plausible_counts < kinds b → ⊥ = λ h. free 9 0 (short_slice (inr (inl h))) in omega arith

  pub feasible_there : kinds b * max_members ≤ length m.feasible
  feasible_there = let z : length m.feasible < kinds b * max_members → ⊥ = λ h. free 9 0 (short_slice (inr (inr (inl h)))) in omega arith

  pub feasible_here : kinds b ≤ length m.feasible_counts
  feasible_here = let z : length m.feasible_counts < kinds b → ⊥ = λ h. free 9 0 (short_slice (inr (inr (inr h)))) in omega arith

  pub left_below : (p : ℕ) → p < prods b → (grammar b).left p < kinds b
  left_below p h = let z : kinds b ≤ (grammar b).left p → ⊥ = λ l. free 6 p (of_book (book.bad_kids p h (inl l))) in omega arith

  pub kid_below : (p j : ℕ) → p < prods b → j < length ((grammar b).kids p) → get_or ((grammar b).kids p) j 0 < kinds b
  kid_below p j h l =
      let z : kinds b ≤ get_or ((grammar b).kids p) j 0 → ⊥ = λ k. free 6 p (of_book (book.bad_kids p h (inr (inr (j, l, inl k))))) in
      omega arith

-- ── two accepted builds ──
abbrev lent : List ℕ → List ℕ → List ℕ → List ℕ → List ℕ → List ℕ → Lent
lent s c f d u w = record { plausible = s; plausible_counts = c; feasible = f; feasible_counts = d; up = u; down = w }

lent_same : (m m' : Lent) → m.plausible ≡ m'.plausible → m.plausible_counts ≡ m'.plausible_counts → m.feasible ≡ m'.feasible
    → m.feasible_counts ≡ m'.feasible_counts → m.up ≡ m'.up → m.down ≡ m'.down → m ≡ m'
lent_same m m' a b c d e f =
    let w : lent m.plausible m.plausible_counts m.feasible m.feasible_counts m.up m.down
    ≡ lent m'.plausible m'.plausible_counts m'.feasible m'.feasible_counts m'.up m'.down = rw (a, b, c, d, e, f) in
    w

module _ {b : List ℕ} {m m₁ m₂ : Lent} {cs ds : List ℕ} (free : (n p : ℕ) → Applies b m n p → ⊥)
    (u : Built (grammar b) m m₁ cs) (v : Built (grammar b) m m₂ ds) where
  same_plausible : (m₁.plausible ≡ m₂.plausible) × (m₁.plausible_counts ≡ m₂.plausible_counts)
  same_plausible = holds_once (plausible_there free) (plausible_here free) u.plausible v.plausible

  same_feasible : (m₁.feasible ≡ m₂.feasible) × (m₁.feasible_counts ≡ m₂.feasible_counts)
  same_feasible = holds_once (feasible_there free) (feasible_here free) u.feasible v.feasible

  same_up : m₁.up ≡ m₂.up
  same_up =
      let (s, c) = same_plausible in
      let table = subst₂ (λ s c. UpTable (grammar b) s c m₂.up) (sym s) (sym c) v.up in
      let rest = subst (λ c. Written (up_entries (grammar b) c) m.up m₂.up) (sym c) v.up_rest in
      written_once u.up_rest rest
      (up_once (grammar b) (left_below free) (holds_fine (plausible_there free) (plausible_here free) u.plausible) m₁.up m₂.up u.up table)

  same_down : m₁.down ≡ m₂.down
  same_down =
      let (s, c) = same_plausible in
      let (f, d) = same_feasible in
      let half = subst₂ (λ s c. DownTable (grammar b) s c m₂.feasible m₂.feasible_counts m₂.down) (sym s) (sym c) v.down in
      let table = subst₂ (λ f d. DownTable (grammar b) m₁.plausible m₁.plausible_counts f d m₂.down) (sym f) (sym d) half in
      let rest = subst₂ (λ c d. Written (down_entries (grammar b) c d * entry_bytes) m.down m₂.down) (sym c) (sym d) v.down_rest in
      written_once u.down_rest rest
      (down_once (grammar b) (kid_below free) (holds_fine (feasible_there free) (feasible_here free) u.feasible)
      m₁.plausible m₁.plausible_counts m₁.down m₂.down u.down table)

  same_memory : m₁ ≡ m₂
  same_memory =
      let (s, c) = same_plausible in
      let (f, d) = same_feasible in
      lent_same m₁ m₂ s c f d same_up same_down

  same_entries : cs ≡ ds
  same_entries =
      let (s, c) = same_plausible in
      let (f, d) = same_feasible in
      u.counted ∙ rw (c, d) (sym v.counted)

-- ── two refused builds ──
turn_numbers : (n p n' p' : ℕ) → book.turn (n, p) ≡ book.turn (n', p') → (n ≡ n') × (p ≡ p')
turn_numbers n p n' p' e = (cc, cc)

same_refusal : {b : List ℕ} {m : Lent} {n p n' p' : ℕ} → First book.turn (λ f. Applies b m f.0 f.1) (n, p)
    → First book.turn (λ f. Applies b m f.0 f.1) (n', p') → (n ≡ n') × (p ≡ p')
same_refusal {b} {m} {n} {p} {n'} {p'} f g =
    turn_numbers n p n' p' (first_once book.turn (λ f. Applies b m f.0 f.1) (λ j k. refl) (n, p) (n', p') f g)

-- THEOREM: two outcomes that keep the promise of the build are the same answer and leave the same memory
pub build_once : (b : List ℕ) (m : Lent) (a a' : Said) (m₁ m₂ : Lent) → BuildDue b m a m₁ → BuildDue b m a' m₂ → (a ≡ a') × (m₁ ≡ m₂)
build_once b m (accepted cs) (accepted ds) m₁ m₂ (free, u) (free', v) =
    (ap accepted (same_entries free u v), same_memory free u v)
build_once b m (accepted cs) (refused n p) m₁ m₂ (free, u) (f, e) = absurd (free n p f.0)
build_once b m (refused n p) (accepted cs) m₁ m₂ (f, e) (free, u) = absurd (free n p f.0)
build_once b m (refused n p) (refused n' p') m₁ m₂ (f, e) (f', e') =
    let (q, w) = same_refusal f f' in
    (ap₂ refused q w, e ∙ ap (λ (n : ℕ). left_by n m) q ∙ sym e')
