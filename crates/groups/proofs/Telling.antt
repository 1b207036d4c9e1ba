-- What a sheet call tells of its nodes is small: ranks are read from tables of bytes, and no entry lies past the down table.
use mathlib.Core.Path.{◌≡◌, sym, subst}
use mathlib.Core.Logic.{inl}
use mathlib.Core.List.{List, [], ◌∷◌, ◌++◌}
use Prim.Native.Nat.{ℕ, zero, suc, ◌+◌, ◌*◌, ◌^◌, ◌<◌}
use native.Mathlib.Omega.{arith}
use native.Mathlib.Decide.{dec_lt}
use lib.ListN.{length, get_or, get_or-append}
use Rattle.chains.specs.Grammar.{Grammar}
use Rattle.chains.specs.Tree.{Bush, nil, grow, size}
use Rattle.book.specs.Format.{grammar}
use Rattle.ranks.specs.Entries.{entry_bytes, none}
use Rattle.numbering.specs.Walk.{Tables, ranks, entry_of, given, places, started}
use Rattle.numbering.specs.Promise.{TreeOf, entry_at, BadDown}
use Rattle.numbering.specs.Places.{plausible_rank, feasible_rank, down_entry_of}
use Rattle.numbering.proofs.Told.{places_long}
use Rattle.numbering.proofs.Trees.{tree_size}
use Rattle.groups.specs.Room.{down_room}

-- three places for each node, of which the first two are bytes
data Threes : List ℕ → Type 0 where
  no_more : Threes []
  three : {u f e : ℕ} {l : List ℕ} → u < 2 ^ 8 → f < 2 ^ 8 → Threes l → Threes (u ∷ f ∷ e ∷ l)

threes_append : {a b : List ℕ} → Threes a → Threes b → Threes (a ++ b)
threes_append no_more y = y
threes_append (three u f x) y = three u f (threes_append x y)

threes_at : {l : List ℕ} → Threes l → (i : ℕ) → (plausible_rank l i < 2 ^ 8) × (feasible_rank l i < 2 ^ 8)
threes_at no_more i = (omega arith, omega arith)
threes_at (three u f x) zero = (u, f)
threes_at (three {u = a} {f = b} {e = c} {l = l} u f x) (suc i) =
    let (p, q) = threes_at x i in
    let first : suc (suc (suc (3 * i))) ≡ 3 * suc i = omega arith in
    let second : suc (suc (suc (3 * i + 1))) ≡ 3 * suc i + 1 = omega arith in (
      subst (λ (k : ℕ). get_or (a ∷ b ∷ c ∷ l) k 0 < 2 ^ 8) first p,
      subst (λ (k : ℕ). get_or (a ∷ b ∷ c ∷ l) k 0 < 2 ^ 8) second q,
    )

-- a byte, or none
byte_or_none : (l : List ℕ) (i : ℕ) → ((k : ℕ) → get_or l k 0 < 2 ^ 8) → get_or l i none < 2 ^ 8
byte_or_none [] i h = omega arith
byte_or_none (x ∷ l) zero h = h 0
byte_or_none (x ∷ l) (suc i) h = byte_or_none l i (λ k. h (suc k))

module _ (G : Grammar) (T : Tables) (up : (i : ℕ) → get_or T.up i 0 < 2 ^ 8) (down : (i : ℕ) → get_or T.down i 0 < 2 ^ 8) where
  ranks_low : (f : Bush) (j : ℕ) → started G T f j < 2 ^ 8
  unfolding ranks
  ranks_low nil j = omega arith
  ranks_low (grow p cs rest) zero = byte_or_none T.up _ up
  ranks_low (grow p cs rest) (suc j) = ranks_low rest j

  places_threes : (f : Bush) (φ : ℕ → ℕ) → ((j : ℕ) → φ j < 2 ^ 8) → Threes (places G T f φ)
  unfolding places
  places_threes nil φ h = no_more
  places_threes (grow p cs rest) φ h =
      three
      (byte_or_none T.up _ up)
      (h 0)
      (threes_append
      (places_threes cs (given T (entry_of G T p (φ 0) cs)) (λ j. byte_or_none T.down _ down))
      (places_threes rest (λ j. φ (suc j)) (λ j. h (suc j))))

  pub ranks_small : (f : Bush) (rest : List ℕ) (i : ℕ) → i < size f
      → (plausible_rank (places G T f (started G T f) ++ rest) i < 2 ^ 8) × (feasible_rank (places G T f (started G T f) ++ rest) i < 2 ^ 8)
  ranks_small f rest i h =
      let (p, q) = threes_at (places_threes f (started G T f) (ranks_low f)) i in
      let all = places G T f (started G T f) in
      let long = places_long G T f (started G T f) in (
        subst (λ (x : ℕ). x < 2 ^ 8) (sym (get_or-append all rest 0 (3 * i) (omega (arith, long)))) p,
        subst (λ (x : ℕ). x < 2 ^ 8) (sym (get_or-append all rest 0 (3 * i + 1) (omega (arith, long)))) q,
      )

-- an entry within the down table is one of those that there is room for
entry_low : (e n : ℕ) → n ≡ entry_bytes * down_room → (n < suc e * entry_bytes → ⊥) → e < down_room
entry_low e n k h = go (dec_lt e down_room)
  where
    go : Dec (e < down_room) → e < down_room
    go (yes x) = x
    go (no x) = absurd (h (omega arith))

pub entries_small : (b l : List ℕ) (T : Tables) (t : TreeOf (grammar b) l) (rest : List ℕ) → length T.down ≡ entry_bytes * down_room
    → ((i : ℕ) → i < length l → BadDown (grammar b) T (get_or l i 0) (entry_at (grammar b) T t.tree i) → ⊥) → (i : ℕ) → i < length l
    → down_entry_of (places (grammar b) T t.tree (started (grammar b) T t.tree) ++ rest) i < down_room
entries_small b l T t rest long none i h =
    let all = places (grammar b) T t.tree (started (grammar b) T t.tree) in
    let room : 3 * i + 2 < length all = omega (arith, places_long (grammar b) T t.tree (started (grammar b) T t.tree), tree_size t) in
    subst (λ (x : ℕ). x < down_room) (sym (get_or-append all rest 0 (3 * i + 2) room)) (entry_low (entry_at (grammar b) T t.tree i) (length T.down) long (λ z. none i h (inl z)))
