-- UNIQUENESS: two outcomes that keep the promise of one public call are the same outcome, answer, place and all lent memory.
use Rattle.std.specs.Prelude.{◌≡◌, Bool, List, ℕ, Option, Result}
use Rattle.refusals.specs.declared.Refusal.{Refusal}
use Rattle.refusals.specs.declared.Refused.{Refused}
use Rattle.zeros.specs.Zeros as zeros
use Rattle.slices.specs.Slices as slices
use Rattle.members.specs.declared.Full.{Full}
use Rattle.members.specs.Sets as members
use Rattle.members.specs.Room.{Measured}
use Rattle.bookcheck.specs.declared.Counts as book_counts
use Rattle.bookcheck.specs.Answer as book_answer
use Rattle.bookcheck.specs.Refusals.{BookDue}
use Rattle.book.specs.Reading.{Index}
use Rattle.sheet.specs.declared.Counts as sheet_counts
use Rattle.sheet.specs.Answer as sheet_answer
use Rattle.sheet.specs.Refusals.{SheetDue}
use Rattle.admission.specs.declared.Lengths.{Lengths}
use Rattle.admission.specs.Answer as admission_answer
use Rattle.admission.specs.Refusals.{AdmissionDue}
use Rattle.service.specs.Word.{Spoken}
use Rattle.ranks.specs.declared.Plausible.{Plausible}
use Rattle.ranks.specs.declared.Feasible.{Feasible}
use Rattle.ranks.specs.Room.{room_said, RoomDue}
use Rattle.ranks.specs.Reads.{UpFinds, DownFinds, child_rank_at, label_at}
use Rattle.tables.specs.declared.Counts as build_counts
use Rattle.tables.specs.Answer as build_answer
use Rattle.blocks.specs.Blocks.{Block, Size, FirstIn}
use Rattle.tables.specs.Promise as tables
use Rattle.numbering.specs.declared.Counts as call_counts
use Rattle.numbering.specs.Answer as call_answer
use Rattle.numbering.specs.Walk.{Tables}
use Rattle.numbering.specs.Promise as numbering

pub record OneOutcome : Type 0 where
  -- the book: its check; the places of its entries; of every other accessor (field, kinds, productions, start, first_entry, settings, mask, left, arity, kid, kind_in, pairs,
  -- to, from, next, slot, setting), as of a refusal's number and of zero, the answer is the number that its promise names
  pub check_book : (b : List ℕ) (r s : Result book_counts.Counts Refused) → BookDue b (book_answer.said r) → BookDue b (book_answer.said s) → r ≡ s
  pub index : (b x y : List ℕ) → Index b x → Index b y → x ≡ y
  pub accessor : (x r s : ℕ) → r ≡ x → s ≡ x → r ≡ s
  -- a refusal at a place
  pub at : (q : Refusal) (place : ℕ) (r s : Refused) → r ≡ record { refusal = q; place = place } → s ≡ record { refusal = q; place = place } → r ≡ s
  -- the sheet's check
  pub check_sheet : (b l : List ℕ) (r s : Result sheet_counts.Counts Refused) → SheetDue b l (sheet_answer.said r) → SheetDue b l (sheet_answer.said s) → r ≡ s
  -- both checks as exported functions
  pub export_book : (b : List ℕ) (v w : ℕ) → Spoken (BookDue b) v → Spoken (BookDue b) w → v ≡ w
  pub export_sheet : (b l : List ℕ) (v w : ℕ) → Spoken (SheetDue b l) v → Spoken (SheetDue b l) w → v ≡ w
  -- the build, with six lent slices
  pub build : (b : List ℕ) (m : tables.Lent) (r s : Result build_counts.Counts Refused) (m₁ m₂ : tables.Lent) → tables.BuildDue b m (build_answer.said r) m₁ → tables.BuildDue b m (build_answer.said s) m₂
      → (r ≡ s) × (m₁ ≡ m₂)
  -- work on lent slices: a number carried in, one label in place of another, a run of bytes laid over a part; and places made zero
  pub insert : (base n x : ℕ) (s s₁ s₂ : List ℕ) (r₁ r₂ : Bool) → slices.Taken base n x s s₁ r₁ → slices.Taken base n x s s₂ r₂ → (r₁ ≡ r₂) × (s₁ ≡ s₂)
  pub relabel : (a b : ℕ) (s s₁ s₂ : List ℕ) → slices.Relabelled a b s s₁ → slices.Relabelled a b s s₂ → s₁ ≡ s₂
  pub lay : (from : ℕ) (s t t₁ t₂ : List ℕ) → slices.Overlaid from s t t₁ → slices.Overlaid from s t t₂ → t₁ ≡ t₂
  pub clear : (n : ℕ) (s s₁ s₂ : List ℕ) → zeros.Cleared n s s₁ → zeros.Cleared n s s₂ → s₁ ≡ s₂
  pub wipe : (all : Bool) (s s₁ s₂ : List ℕ) → zeros.Wiped all s s₁ → zeros.Wiped all s s₂ → s₁ ≡ s₂
  -- the sets in lent memory: a place sought, a number put in
  pub place_of : (s : List ℕ) (base n x : ℕ) (i j : Option ℕ) → members.Sought s base n x i → members.Sought s base n x j → i ≡ j
  pub put : (k x : ℕ) (s c s₁ c₁ s₂ c₂ : List ℕ) (r₁ r₂ : Result Bool Full) → members.Put k x s c s₁ c₁ r₁ → members.Put k x s c s₂ c₂ r₂ → (r₁ ≡ r₂) × (s₁ ≡ s₂) × (c₁ ≡ c₂)
  -- what is decided of a build by lengths: the sets' room, and the tables'
  pub too_short : (n a b c d : ℕ) (r s : Bool) → Measured n a b c d r → Measured n a b c d s → r ≡ s
  pub room_for : (up down ups downs : ℕ) (r s : Result (Unit {0}) Refused) → RoomDue up down ups downs (room_said r) → RoomDue up down ups downs (room_said s) → r ≡ s
  -- blocks of a down entry
  pub occurrences : (down : List ℕ) (e x s t : ℕ) → Block down e x s → Block down e x t → s ≡ t
  pub block_size : (set n m : ℕ) → Size set n → Size set m → n ≡ m
  pub first_occurrence : (set i j : ℕ) → FirstIn set i → FirstIn set j → i ≡ j
  -- reads of the two tables
  pub read_up : (up : List ℕ) (e : ℕ) (r s : Option Plausible) → UpFinds up e r → UpFinds up e s → r ≡ s
  pub read_down : (down : List ℕ) (e : ℕ) (r s : Option ℕ) → DownFinds down e r → DownFinds down e s → r ≡ s
  pub child_rank : (down : List ℕ) (e j : ℕ) (r s : Feasible) → r.0 ≡ child_rank_at down e j → s.0 ≡ child_rank_at down e j → r ≡ s
  pub label : (down : List ℕ) (e o x y : ℕ) → x ≡ label_at down e o → y ≡ label_at down e o → x ≡ y
  pub started : (p : Plausible) (r s : Feasible) → r.0 ≡ p.0 → s.0 ≡ p.0 → r ≡ s
  -- what is decided of a sheet call by lengths
  pub admit : (b l : List ℕ) (m : Lengths) (r s : Result sheet_counts.Counts Refused) → AdmissionDue b l m (admission_answer.said r) → AdmissionDue b l m (admission_answer.said s) → r ≡ s
  -- the sheet call, with two lent slices
  pub group_sheet : (b l : List ℕ) (T : Tables) (m : numbering.Lent) (r s : Result call_counts.Counts Refused) (m₁ m₂ : numbering.Lent)
      → numbering.CallDue b l T m (call_answer.said r) m₁ → numbering.CallDue b l T m (call_answer.said s) m₂ → (r ≡ s) × (m₁ ≡ m₂)
