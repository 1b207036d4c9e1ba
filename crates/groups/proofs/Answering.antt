-- From what the calls promise to what the program answers.
use mathlib.Core.Path.{◌≡◌, refl, sym, subst, ◌∙◌}
use mathlib.Core.Logic.{inl, inr}
use mathlib.Core.List.{List, [], ◌∷◌}
use Prim.Native.Nat.{ℕ, ◌+◌, ◌*◌, ◌^◌, ◌≤◌, ◌<◌}
use native.Mathlib.Omega.{arith}
use native.Mathlib.Decide.{dec_le}
use lib.ListN.{length, get_or, drop, length-replicate}
use Rattle.std.specs.Prelude.{Result, Ok, Err}
use Rattle.lists.specs.Refusals.{Said, accepted}
use Rattle.refusals.specs.declared.Refused.{Refused}
use Rattle.book.specs.Format.{grammar}
use Rattle.sheet.specs.Reading.{all_settings}
use Rattle.sheet.proofs.Accepted.{accepted_sheet}
use Rattle.numbering.specs.Walk.{Tables}
use Rattle.numbering.specs.Promise.{Lent, entry_at, BadDown, CallDue, of_sheet, short_room, bad_down}
use Rattle.numbering.specs.Places.{plausible_rank, feasible_rank, down_entry_of}
use Rattle.numbering.proofs.Trees.{tree_size, node_at}
use Rattle.ranks.specs.Entries.{entry_bytes}
use Rattle.tables.specs.Promise as tables
use Rattle.groups.specs.Room.{down_room, node_room, build_room, sheet_room}
use Rattle.groups.specs.Input.{Cut, book_of}
use Rattle.groups.specs.Printed.{printed}
use Rattle.groups.specs.Answers.{tables_of, SheetText, BookText, built, Answers, taken}
use Rattle.groups.specs.Adding.{Printable, PrintedOrRefused}
use Rattle.groups.proofs.Telling.{ranks_small, entries_small}

long_enough : {n m : ℕ} → (n < m → ⊥) → m ≤ n
long_enough {n} {m} h = go (dec_le m n)
  where
    go : Dec (m ≤ n) → m ≤ n
    go (yes x) = x
    go (no x) = absurd (h (omega arith))

-- a sheet that is accepted fits its book and the room, and what is told of its nodes is small
pub printable : (b l : List ℕ) (T : Tables) (m : Lent) {counts : List ℕ} → CallDue b l T sheet_room (accepted counts) m → length m.nodes ≡ length sheet_room.nodes
    → length m.groups ≡ length sheet_room.groups → length T.down ≡ entry_bytes * down_room → ((i : ℕ) → get_or T.up i 0 < 2 ^ 8) → ((i : ℕ) → get_or T.down i 0 < 2 ^ 8)
    → Printable b l m
printable b l T m (none, grouped) kn kg kd up down =
    let three : 3 * length l ≤ length sheet_room.nodes = long_enough (λ h. none 24 0 0 (short_room (inl h))) in
    let all : all_settings (grammar b) l ≤ length sheet_room.groups = long_enough (λ h. none 24 0 0 (short_room (inr h))) in
    let room : length sheet_room.nodes ≡ 3 * node_room = length-replicate {A = ℕ} (3 * node_room) 0 in
    let t = grouped.of in
    let rest = drop (3 * length l) sheet_room.nodes in
    let low : (i : ℕ) → i < length l → (plausible_rank m.nodes i < 2 ^ 8) × (feasible_rank m.nodes i < 2 ^ 8) = λ i h.
    subst (λ (x : List ℕ). (plausible_rank x i < 2 ^ 8) × (feasible_rank x i < 2 ^ 8)) (sym grouped.nodes)
    (ranks_small (grammar b) T up down t.tree rest i (subst (λ (k : ℕ). i < k) (sym (tree_size t)) h)) in
    let inside : (i : ℕ) → i < length l → BadDown (grammar b) T (get_or l i 0) (entry_at (grammar b) T t.tree i) → ⊥ = λ i h bad.
    let at = node_at t i h in none 25 i (length l + 2 + i) (bad_down t i (get_or l i 0) at.below at.is_node bad) in
    let few_entries : (i : ℕ) → i < length l → down_entry_of m.nodes i < down_room = λ i h.
    subst (λ (x : List ℕ). down_entry_of x i < down_room) (sym grouped.nodes) (entries_small b l T t rest kd inside i h) in
    record {
      fits = (accepted_sheet b l (length l) (all_settings (grammar b) l) (refl, λ f a. none f.0 f.1 f.1 (of_sheet a))).0;
      few = omega arith;
      nodes = omega arith;
      groups = omega arith;
      ranks = low;
      entries = few_entries;
    }

-- the text that is due by what the sheet call says
pub said_text : {b l : List ℕ} {T : Tables} (said : Said) (left : Lent) → CallDue b l T sheet_room said left → SheetText b l T (printed b l said left)
said_text said left d = record { said = said; left = left; due = d; shown = refl }

-- what is due for a sheet by the tables is due for the book that they were built of
pub built_text : {b : List ℕ} (l text : List ℕ) (r : Result (Unit {0}) Refused) {counts : List ℕ} (m : tables.Lent) → tables.BuildDue b build_room (accepted counts) m
    → PrintedOrRefused (SheetText b l (tables_of m)) r text → PrintedOrRefused (BookText b l) r text
built_text l text (Ok done) {counts} m d t = built counts m d t
built_text l text (Err r) {counts} m d t = built counts m d t

-- an input's text is that of its book and its sheet
pub taken_text : {input l b text : List ℕ} → Cut input l b → BookText b l text → Answers input text
taken_text {input} {l} {b} {text} c t =
    let of_book : BookText (book_of input) l text = subst (λ (x : List ℕ). BookText x l text) c.book t in
    taken c.taken (subst (λ (x : List ℕ). BookText (book_of input) x text) c.sheet of_book)
