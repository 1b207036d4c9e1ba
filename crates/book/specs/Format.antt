-- The grammar book: kind entries, production entries, and a trailer of 12 bytes that is read first and points back.
use Rattle.std.specs.Prelude.{◌≡◌, Bool, List, [], ◌∷◌, ℕ, zero, suc, ◌+◌, ◌-◌, ◌*◌, ◌/◌, ◌%◌, ◌^◌, ◌≤◌, eqb, length, get_or}
use Rattle.lists.specs.Part.{part}
use Rattle.chains.specs.Grammar.{Occ, Tie, Grammar}

-- ── the trailer ──
-- its fields, of two bytes each
abbrev pub fields : ℕ
fields = 6

abbrev pub trailer_bytes : ℕ
trailer_bytes = 2 * fields

-- the place of its first byte; there is one where the book has its bytes
abbrev pub trailer : List ℕ → ℕ
trailer b = length b - trailer_bytes

-- its i-th field, of two bytes, the low one first
abbrev pub field : List ℕ → ℕ → ℕ
field b i = get_or b (trailer b + 2 * i) 0 + 256 * get_or b (trailer b + 2 * i + 1) 0

abbrev pub edition : List ℕ → ℕ
edition b = field b 0

-- the book is of an edition that its readers know
abbrev pub Known : List ℕ → Type 0
Known b = edition b ≡ 1

abbrev pub kinds : List ℕ → ℕ
kinds b = field b 1

abbrev pub prods : List ℕ → ℕ
prods b = field b 2

abbrev pub start : List ℕ → ℕ
start b = field b 3

-- how far back from the trailer the first kind entry stands, and the first production entry
abbrev pub back_to_kinds : List ℕ → ℕ
back_to_kinds b = field b 4

abbrev pub back_to_prods : List ℕ → ℕ
back_to_prods b = field b 5

-- ── kind entries: number of settings, mask of the inherited ones ──
abbrev pub kind_at : List ℕ → ℕ → ℕ
kind_at b k = trailer b - back_to_kinds b + 2 * k

abbrev pub Bit : ℕ → ℕ → Bool
Bit mask i = eqb (mask / 2 ^ i % 2) 1

-- ── production entries: left kind, number of children, children, number of pairs, pairs ──
abbrev pub left_at : List ℕ → ℕ → ℕ
left_at b at = get_or b at 0

abbrev pub arity_at : List ℕ → ℕ → ℕ
arity_at b at = get_or b (at + 1) 0

abbrev pub kids_at : List ℕ → ℕ → List ℕ
kids_at b at = part (at + 2) (arity_at b at) b

-- the place behind the children: the number of pairs stands there, and everything after it goes from here
abbrev pub after_kids : List ℕ → ℕ → ℕ
after_kids b at = at + 2 + arity_at b at

abbrev pub pairs_at : List ℕ → ℕ → ℕ
pairs_at b at = get_or b (after_kids b at) 0

-- the place of pair i, which has two bytes
abbrev pub pair_place : List ℕ → ℕ → ℕ → ℕ
pair_place b at i = after_kids b at + 1 + 2 * i

-- the bytes of the pairs
abbrev pub bytes_at : List ℕ → ℕ → List ℕ
bytes_at b at = part (after_kids b at + 1) (2 * pairs_at b at) b

-- the entry ends where a further pair would stand
abbrev pub next_at : List ℕ → ℕ → ℕ
next_at b at = pair_place b at (pairs_at b at)

-- the most bytes that an entry takes by its own counts, each of them a byte
abbrev pub entry_most : ℕ
entry_most = 3 + 255 + 2 * 255

-- the place of the p-th production entry
unfoldable pub entry : List ℕ → ℕ → ℕ
entry b zero = trailer b - back_to_prods b
entry b (suc p) = next_at b (entry b p)

-- an occurrence byte: the slot is its upper five bits, the setting its lower three
abbrev pub occ : ℕ → Occ
occ o = (o / 8, o % 8)

unfoldable pub ties_of : List ℕ → List Tie
ties_of [] = []
ties_of (to ∷ []) = []
ties_of (to ∷ from ∷ bs) = (occ to, occ from) ∷ ties_of bs

-- ── the grammar that a book holds ──
abbrev pub grammar : List ℕ → Grammar
grammar b = record {
  kinds = kinds b;
  prods = prods b;
  start = start b;
  settings = λ k. get_or b (kind_at b k) 0;
  inherits = λ k i. Bit (get_or b (kind_at b k + 1) 0) i;
  left = λ p. left_at b (entry b p);
  kids = λ p. kids_at b (entry b p);
  ties = λ p. ties_of (bytes_at b (entry b p));
}

-- n entries, one after another from at on, each whole before the trailer, end at e
abbrev pub Walks : List ℕ → ℕ → ℕ → ℕ → Type 0
Walks b zero at e = at ≡ e
Walks b (suc n) at e = (next_at b at ≤ trailer b) × Walks b n (next_at b at) e

-- the three parts fill the book without gap or remainder
pub record Laid (b : List ℕ) : Type 0 where
  pub whole : trailer_bytes ≤ length b
  pub from_front : back_to_kinds b ≡ trailer b
  pub then_prods : back_to_prods b + 2 * kinds b ≡ trailer b
  pub to_trailer : Walks b (prods b) (trailer b - back_to_prods b) (trailer b)
