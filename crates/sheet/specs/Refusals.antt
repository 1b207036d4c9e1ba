-- Refusals 20 to 23 of a tree sheet, after 1 to 8 of its book: the rows of the paper's table, in its words.
use Rattle.std.specs.Prelude.{◌≡◌, ◌⊎◌, List, [], ◌∷◌, ℕ, ◌≤◌, ◌<◌, ltb, length, get_or}
use Rattle.lists.specs.Pick.{pick}
use Rattle.lists.specs.Refusals.{Said, Due}
use Rattle.chains.specs.Limits.{max_nodes, max_levels}
use Rattle.book.specs.Format.{grammar, prods}
use Rattle.bookcheck.specs.Refusals as book
use Rattle.sheet.specs.Reading.{Node, Read, all_settings}

-- Applies b l n p: refusal n of the sheet l against the book b has its condition met at the place p
pub data Applies (b l : List ℕ) : ℕ → ℕ → Type 0 where
  of_book : {n p : ℕ} → book.Applies b n p → Applies b l n p
  bad_length : (length l ≡ 0) ⊎ (max_nodes < length l) → Applies b l 20 0
  no_production : (i : ℕ) (ds : List Node) → Read (grammar b) l i ds → i < length l → prods b ≤ get_or l i 0 → Applies b l 21 i
  other_kind : (i k v : ℕ) (ds : List Node) → Read (grammar b) l i ((k, v) ∷ ds) → i < length l → ((grammar b).left (get_or l i 0) ≡ k → ⊥) → Applies b l 22 i
  ends_early : (d : Node) (ds : List Node) → Read (grammar b) l (length l) (d ∷ ds) → Applies b l 22 (length l)
  bytes_left : (i : ℕ) → Read (grammar b) l i [] → i < length l → Applies b l 22 i
  too_deep : (i k v : ℕ) (ds : List Node) → Read (grammar b) l i ((k, v) ∷ ds) → i < length l → max_levels < v → Applies b l 23 i

-- 1 to 20 go by number, then by place; 21 to 23 are sought together, by place and then by number
abbrev pub turn : (ℕ × ℕ) → List ℕ
turn f = pick (ltb f.0 21) f.0 21 ∷ f.1 ∷ f.0 ∷ []

-- THE PROMISE of a sheet check: what it says of the sheet l against the book b; its counts are nodes and settings
abbrev pub SheetDue : List ℕ → List ℕ → Said → Type 0
SheetDue b l = Due turn (λ f. f.0) (λ f. f.1) (λ f. Applies b l f.0 f.1) (length l ∷ all_settings (grammar b) l ∷ [])
