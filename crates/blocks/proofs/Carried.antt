-- Blocks: what the loop over the occurrences makes, that each promise has one answer, and what size and first say of the occurrences themselves.
use mathlib.Core.Path.{◌≡◌}
use mathlib.Core.Logic.{◌⊎◌, inl, inr, ◌↔◌}
use mathlib.Core.List.{List, Memᴰ}
use Prim.Native.Nat.{ℕ, ◌+◌, ◌*◌, ◌≤◌}
use native.Mathlib.Omega.{arith}
use lib.ListN.{length}
use Rattle.lists.specs.Rising.{Rising}
use Rattle.lists.specs.Sought.{Free, Least}
use Rattle.ranks.specs.Entries.{labels, entry_bytes, none}
use Rattle.ranks.specs.Reads.{label_at}
use Rattle.blocks.specs.Blocks.{set_bits, In, Carries, Block, Size, FirstIn}
use Rattle.blocks.proofs.BitSets.{set_once, Marked, marked_in}

module _ {down : List ℕ} {e x : ℕ} where
  -- the set of all that carry it
  pub block_full : {n set : ℕ} → (e + 1) * entry_bytes ≤ length down → (x ≡ none → ⊥) → n ≡ labels → Marked (λ o. label_at down e o ≡ x) n set → Block down e x set
  block_full {n} {set} w l k m o = (in_block, λ c. (m.exactly o (omega (arith, c.occurs))).1 c.same)
    where
      in_block : In set o → Carries down e x o
      in_block b = let (h, s) = marked_in m o b in record { whole = w; labelled = l; occurs = omega arith; same = s }

-- THEOREM: two sets of one label's occurrences are the same set
pub occurrences_once : (down : List ℕ) (e x s t : ℕ) → Block down e x s → Block down e x t → s ≡ t
occurrences_once down e x s t a b = set_once (Carries down e x) s t a b

-- ── THEOREMS: of a label's occurrences, size counts those that carry it, and first is the least of them ──
pub block_size_counts : (down : List ℕ) (e x s n : ℕ) → Block down e x s → Size s n
    → (l : List ℕ) × Rising l × ((o : ℕ) → Memᴰ o l ↔ Carries down e x o) × (length l ≡ n)
block_size_counts down e x s n b z =
    (z.members, z.rising, λ o. (λ m. (b o).0 ((z.exactly o).0 m), λ c. (z.exactly o).1 ((b o).1 c)), z.many)

pub block_first_least : (down : List ℕ) (e x s i : ℕ) → Block down e x s → FirstIn s i
    → Least (Carries down e x) labels i ⊎ ((i ≡ set_bits) × Free (Carries down e x) labels)
block_first_least down e x s i b (inl l) =
    let c = (b i).0 l.has in
    inl (record { below = c.occurs; has = c; first = λ j h d. l.first j h ((b j).1 d) })
block_first_least down e x s i b (inr (z, f)) = inr (z, λ j h c. f j (omega (arith, c.occurs)) ((b j).1 c))
