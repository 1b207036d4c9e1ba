-- The shape of a production, as it is read off the book once for all its entries, and what its kinds have in the sets. No promise of the library
-- cites this page.
use Rattle.std.specs.Prelude.{◌≡◌, List, [], ◌∷◌, ℕ, zero, suc, ◌-◌, ◌≤◌, ◌<◌, length, get_or}
use Rattle.chains.specs.Limits.{max_settings, max_kids, max_members}
use Rattle.chains.specs.Labels as labelling
use Rattle.book.specs.Format.{kinds, prods, entry, arity_at}
use Rattle.book.specs.Reading.{kind_in}
use Rattle.bookcheck.specs.Accepted.{Accepted}
use Rattle.members.specs.Sets.{Placed}
use Rattle.tables.specs.State.{width_in, based}
use Rattle.tables.specs.declared.shape.Slot.{Slot}
use Rattle.tables.specs.declared.shape.Shape.{Shape}

-- ── the shape of a production ──
abbrev pub max_slots : ℕ
max_slots = suc max_kids

-- the kind of slot t, and its number of settings
abbrev pub no_slot : Slot
no_slot = record { kind = 0; width = 0 }

abbrev pub kind_of : Shape → ℕ → ℕ
kind_of v t = (get_or v.slots t no_slot).kind

abbrev pub width_of : Shape → ℕ → ℕ
width_of v t = (get_or v.slots t no_slot).width

-- the kinds of the slots from t on
unfoldable pub kinds_from : Shape → ℕ → List ℕ
kinds_from v t = labelling.labels_by (kind_of v) t (suc v.arity - t)

-- the first of the last n slots
abbrev pub first_of : Shape → ℕ → ℕ
first_of v n = suc v.arity - n

-- slot t of the production whose entry stands at `at`, the n slots from t on, and its shape
abbrev pub slot_at : List ℕ → ℕ → ℕ → Slot
slot_at b at t = record { kind = kind_in b at t; width = width_in b at t }

abbrev pub slots_at : List ℕ → ℕ → ℕ → ℕ → List Slot
slots_at b at t zero = []
slots_at b at t (suc n) = slot_at b at t ∷ slots_at b at (suc t) n

abbrev pub shape_at : List ℕ → ℕ → Shape
shape_at b at = record { arity = arity_at b at; slots = slots_at b at 0 max_slots }

-- the shape and the base of production p
abbrev pub shape_of : List ℕ → ℕ → Shape
shape_of b p = shape_at b (entry b p)

abbrev pub base_of : List ℕ → ℕ → List ℕ
base_of b p = based b (entry b p)

-- v is the shape of the production whose entry stands at `at`
pub record ShapeAt (b : List ℕ) (at : ℕ) (v : Shape) : Type 0 where
  pub arity : v.arity ≡ arity_at b at
  pub kinds : (t : ℕ) → t < max_slots → kind_of v t ≡ kind_in b at t
  pub widths : (t : ℕ) → t < max_slots → width_of v t ≡ width_in b at t

-- ── what the counting leans on ──
-- the book is accepted, and its entries stand at these places
pub record Opened (b places : List ℕ) : Type 0 where
  pub book : Accepted b
  pub many : length places ≡ prods b
  pub each : (p : ℕ) → p < prods b → get_or places p 0 ≡ entry b p

-- every kind of the book has its count, of a set that is not over-full
pub record Small (b c : List ℕ) : Type 0 where
  pub here : kinds b ≤ length c
  pub few : (k : ℕ) → k < kinds b → get_or c k 0 ≤ max_members

-- the same for the kinds of one production
pub record Countable (v : Shape) (c : List ℕ) : Type 0 where
  pub arity : v.arity ≤ max_kids
  pub here : (t : ℕ) → t ≤ v.arity → kind_of v t < length c
  pub few : (t : ℕ) → t ≤ v.arity → get_or c (kind_of v t) 0 ≤ max_members

-- the slots fit their places in a state, and the counts theirs
pub record Sized (v : Shape) : Type 0 where
  pub arity : v.arity ≤ max_kids
  pub widths : (t : ℕ) → t ≤ v.arity → width_of v t ≤ max_settings

-- each slot's kind has its places in the sets s, and its count in c
abbrev pub AllPlaced : Shape → List ℕ → List ℕ → Type 0
AllPlaced v s c = (t : ℕ) → t ≤ v.arity → Placed s c (kind_of v t)
