-- How long the texts are: all of them have room.
use mathlib.Core.Path.{sym, subst}
use mathlib.Core.List.{List, [], ◌∷◌}
use Prim.Native.Nat.{ℕ, zero, suc, ◌+◌, ◌*◌, ◌^◌, ◌≤◌, ◌<◌}
use native.Mathlib.Omega.{arith}
use lib.ListN.{length, get_or, take, drop, length-append, length-take}
use Rattle.lists.specs.Refusals.{accepted}
use Rattle.lists.proofs.Parts.{get_d_part}
use Rattle.chains.specs.Limits.{max_settings}
use Rattle.book.specs.Format.{grammar}
use Rattle.sheet.specs.Reading.{all_settings}
use Rattle.sheet.proofs.Accepted.{book_accepted, byte_low}
use Rattle.numbering.specs.Promise.{Lent}
use Rattle.text.specs.Decimals.{decimals}
use Rattle.text.proofs.Spelling.{decimals_short}
use Rattle.groups.specs.Room.{node_room, down_room}
use Rattle.groups.specs.Printed.{numbers, refusal, totals, line, node_line, lines, own_groups, printed}
use Rattle.groups.specs.Adding.{Printable, most_totals, most_line, most_text}

-- the numbers are those that their types hold
pub record Typed (l : List ℕ) (m : Lent) : Type 0 where
  pub bytes : (i : ℕ) → get_or l i 0 < 2 ^ 8
  pub groups : (i : ℕ) → get_or m.groups i 0 < 2 ^ 16

numbers_short : (l : List ℕ) → ((i : ℕ) → i < length l → get_or l i 0 < 2 ^ 16) → length (numbers l) ≤ 6 * length l
unfolding numbers
numbers_short [] h = omega arith
numbers_short (n ∷ l) h =
    let d : length (decimals n) ≤ 5 = decimals_short n 5 (omega arith) (omega (arith, h 0 (omega arith))) in
    let r : length (numbers l) ≤ 6 * length l = numbers_short l (λ i k. h (suc i) (omega arith)) in
    omega (arith, length-append (decimals n) (numbers l))

line_short : (i p u f e : ℕ) (own : List ℕ) → i < 10000 → p < 2 ^ 8 → u < 2 ^ 8 → f < 2 ^ 8 → e < down_room → ((k : ℕ) → k < length own → get_or own k 0 < 2 ^ 16)
    → length own ≤ max_settings → length (line i p u f e own) ≤ most_line
unfolding numbers
line_short i p u f e own hi hp hu hf he ho few =
    let a : length (decimals i) ≤ 4 = decimals_short i 4 (omega arith) (omega arith) in
    let b : length (decimals p) ≤ 3 = decimals_short p 3 (omega arith) (omega arith) in
    let c : length (decimals u) ≤ 3 = decimals_short u 3 (omega arith) (omega arith) in
    let d : length (decimals f) ≤ 3 = decimals_short f 3 (omega arith) (omega arith) in
    let g : length (decimals e) ≤ 4 = decimals_short e 4 (omega arith) (omega arith) in
    let o : length (numbers own) ≤ 6 * length own = numbers_short own ho in
    simp length-append (omega arith)

-- the text of a refusal, and the first line
pub refusal_short : (n p : ℕ) → n < 2 ^ 8 → p < 2 ^ 16 → length (refusal n p) ≤ most_text
unfolding numbers
refusal_short n p hn hp =
    let a : length (decimals n) ≤ 3 = decimals_short n 3 (omega arith) (omega arith) in
    let b : length (decimals p) ≤ 5 = decimals_short p 5 (omega arith) (omega arith) in
    simp length-append (omega arith)

totals_short : (n s g : ℕ) → n < 2 ^ 16 → s < 2 ^ 16 → g < 2 ^ 16 → length (totals (n ∷ s ∷ g ∷ [])) ≤ most_totals
unfolding numbers
totals_short n s g hn hs hg =
    let a : length (decimals n) ≤ 5 = decimals_short n 5 (omega arith) (omega arith) in
    let b : length (decimals s) ≤ 5 = decimals_short s 5 (omega arith) (omega arith) in
    let c : length (decimals g) ≤ 5 = decimals_short g 5 (omega arith) (omega arith) in
    simp length-append (omega arith)

-- ── all lines ──
own_few : {b l : List ℕ} {m : Lent} → Printable b l m → (i : ℕ) → i < length l → length (own_groups (grammar b) l m i) ≤ max_settings
own_few {b} {l} {m} p i h =
    let law = (book_accepted b p.fits.sound).lawful in
    let few = law.few_settings ((grammar b).left (get_or l i 0)) (law.left_in (get_or l i 0) (byte_low p.fits.drawn i h)) in
    rw length-take (omega arith)

own_typed : (b l : List ℕ) (m : Lent) → Typed l m → (i k : ℕ) → k < length (own_groups (grammar b) l m i) → get_or (own_groups (grammar b) l m i) k 0 < 2 ^ 16
own_typed b l m t i k h =
    let base = all_settings (grammar b) (take i l) in
    let wide = (grammar b).settings ((grammar b).left (get_or l i 0)) in
    let inside : k < wide = omega (arith, length-take wide (drop base m.groups)) in
    subst (λ (x : ℕ). x < 2 ^ 16) (sym (get_d_part base wide m.groups k 0 inside)) (t.groups (base + k))

lines_short : {b l : List ℕ} {m : Lent} → Printable b l m → Typed l m → (n : ℕ) → n ≤ length l → length (lines (grammar b) l m n) ≤ most_line * n
unfolding lines
lines_short p t zero h = omega arith
lines_short {b} {l} {m} p t (suc n) h =
    let before : length (lines (grammar b) l m n) ≤ most_line * n = lines_short p t n (omega arith) in
    let this : length (node_line (grammar b) l m n) ≤ most_line = line_short n _ _ _ _ (own_groups (grammar b) l m n) (omega (arith, p.few)) (t.bytes n) (p.ranks n h).0 (p.ranks n h).1 (p.entries n h) (own_typed b l m t n) (own_few p n h) in
    omega (arith, length-append (lines (grammar b) l m n) (node_line (grammar b) l m n))

-- THEOREM: whatever is printed of an answer has room
pub printed_short : {b l : List ℕ} {m : Lent} → Printable b l m → Typed l m → (n s g : ℕ) → n < 2 ^ 16 → s < 2 ^ 16 → g < 2 ^ 16
    → length (printed b l (accepted (n ∷ s ∷ g ∷ [])) m) ≤ most_text
printed_short {b} {l} {m} p t n s g hn hs hg =
    let first : length (totals (n ∷ s ∷ g ∷ [])) ≤ most_totals = totals_short n s g hn hs hg in
    let rest : length (lines (grammar b) l m (length l)) ≤ most_line * length l = lines_short p t (length l) (omega arith) in
    let few : length l ≤ node_room = p.few in
    rw length-append (omega arith)
