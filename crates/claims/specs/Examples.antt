-- The worked examples of the paper that are proved from the definitions: one table, and what each of its rows claims.
use Rattle.std.specs.Prelude.{◌↔◌, ℕ, ◌*◌, ◌≤◌, length, replicate}
use mathlib.Core.List.{List, [], ◌∷◌, Memᴰ}
use Rattle.lists.specs.Rising.{Rising}
use Rattle.lists.specs.Refusals.{accepted, refused}
use Rattle.chains.specs.Limits.{max_members}
use Rattle.chains.specs.Plausible.{Plausible}
use Rattle.chains.specs.Feasible.{Feasible}
use Rattle.book.specs.Format.{grammar}
use Rattle.sheet.specs.Refusals.{SheetDue}
use Rattle.admission.specs.Refusals.{ShortCounts}
use Rattle.ranks.specs.Entries.{entry_bytes}
use Rattle.tables.specs.Promise as tables
use Rattle.numbering.specs.Walk.{Tables}
use Rattle.numbering.specs.Promise as numbering
use Rattle.claims.specs.Build.{tables_of}

-- the article's Fig. 1: kinds, five productions, trailer
abbrev pub book : List ℕ
book = 2 ∷ 0 ∷ 4 ∷ 5 ∷ 4 ∷ 5
    ∷ 0 ∷ 1 ∷ 1 ∷ 2 ∷ 0 ∷ 9 ∷ 1 ∷ 11
    ∷ 1 ∷ 1 ∷ 2 ∷ 4 ∷ 1 ∷ 9 ∷ 3 ∷ 11 ∷ 8 ∷ 0 ∷ 10 ∷ 2
    ∷ 1 ∷ 1 ∷ 2 ∷ 5 ∷ 1 ∷ 9 ∷ 3 ∷ 9 ∷ 3 ∷ 11 ∷ 8 ∷ 0 ∷ 10 ∷ 2
    ∷ 2 ∷ 0 ∷ 2 ∷ 1 ∷ 0 ∷ 3 ∷ 2
    ∷ 2 ∷ 0 ∷ 2 ∷ 1 ∷ 2 ∷ 3 ∷ 0
    ∷ 1 ∷ 0 ∷ 3 ∷ 0 ∷ 5 ∷ 0 ∷ 0 ∷ 0 ∷ 54 ∷ 0 ∷ 48 ∷ 0 ∷ []

-- its kinds
abbrev pub S : ℕ
S = 0

abbrev pub X : ℕ
X = 1

abbrev pub Y : ℕ
Y = 2

abbrev zeros : ℕ → List ℕ
zeros n = replicate n 0

-- memory that is lent to a build of it: three kinds' sets, 9 up entries, 24 down entries
abbrev pub room : tables.Lent
room = record {
  plausible = zeros (3 * max_members);
  plausible_counts = zeros 3;
  feasible = zeros (3 * max_members);
  feasible_counts = zeros 3;
  up = zeros 9;
  down = zeros (24 * entry_bytes);
}

pub data Row : Type 0 where
  -- a kind's whole set, in order
  plausible : ℕ → List ℕ → Row
  feasible : ℕ → List ℕ → Row
  -- the numbers of up entries and of down entries
  entries : ℕ → ℕ → Row
  -- a sheet; nodes, settings and groups; of each node the plausible rank, the feasible rank and the down entry; of each node the group numbers
  grouped : (sheet answer nodes groups : List ℕ) → Row
  -- a sheet; the number and the place of its refusal
  refusal : (sheet : List ℕ) (number place : ℕ) → Row

abbrev pub table : List Row
table = plausible S (0 ∷ 8 ∷ [])
    ∷ plausible X (0 ∷ 72 ∷ 576 ∷ [])
    ∷ plausible Y (72 ∷ 576 ∷ [])
    ∷ feasible S (0 ∷ 8 ∷ [])
    ∷ feasible X (0 ∷ 72 ∷ 576 ∷ [])
    ∷ feasible Y (0 ∷ 72 ∷ 576 ∷ [])
    ∷ entries 9 24
    ∷ grouped (0 ∷ 1 ∷ 3 ∷ []) (3 ∷ 10 ∷ 2 ∷ []) (1 ∷ 1 ∷ 5 ∷ 2 ∷ 2 ∷ 11 ∷ 1 ∷ 2 ∷ 20 ∷ []) (0 ∷ 1 ∷ 0 ∷ 0 ∷ 1 ∷ 1 ∷ 0 ∷ 0 ∷ 1 ∷ 1 ∷ [])
    ∷ grouped (0 ∷ 2 ∷ 4 ∷ []) (3 ∷ 10 ∷ 1 ∷ []) (0 ∷ 0 ∷ 0 ∷ 0 ∷ 0 ∷ 12 ∷ 0 ∷ 0 ∷ 21 ∷ []) (0 ∷ 0 ∷ 0 ∷ 0 ∷ 0 ∷ 0 ∷ 0 ∷ 0 ∷ 0 ∷ 0 ∷ [])
    ∷ refusal (0 ∷ 1 ∷ []) 22 2
    ∷ refusal (0 ∷ 1 ∷ 3 ∷ 3 ∷ []) 22 3
    ∷ refusal (0 ∷ 9 ∷ []) 21 1
    ∷ refusal (3 ∷ []) 22 0
    ∷ []

-- the sheet call is refused so by any tables with counts of every kind, whatever memory is lent to it, and with 9 where a count is missing
abbrev pub CallRefused : List ℕ → ℕ → ℕ → Type 0
CallRefused sheet number place = (T : Tables) (n : numbering.Lent)
    → (3 ≤ length T.plausible_counts → 3 ≤ length T.feasible_counts → numbering.CallDue book sheet T n (refused number place) n)
    × (ShortCounts book (length T.plausible_counts) (length T.feasible_counts) → numbering.CallDue book sheet T n (refused 9 0) n)

-- what a row claims, in the words of the promises
abbrev pub Claim : Row → Type 0
Claim (plausible k codes) = Rising codes × ((c : ℕ) → Memᴰ c codes ↔ Plausible (grammar book) k c)
Claim (feasible k codes) = Rising codes × ((c : ℕ) → Memᴰ c codes ↔ Feasible (grammar book) k c)
Claim (entries up down) = (m : tables.Lent) × tables.BuildDue book room (accepted (up ∷ down ∷ [])) m
Claim (grouped sheet answer nodes groups) = (m : tables.Lent) (made : List ℕ) → tables.BuildDue book room (accepted made) m
    → numbering.CallDue book sheet (tables_of m) (record { nodes = zeros (length nodes); groups = zeros (length groups) }) (accepted answer)
    (record { nodes = nodes; groups = groups })
Claim (refusal sheet number place) = SheetDue book sheet (refused number place) × CallRefused sheet number place

abbrev pub AllHold : List Row → Type 0
AllHold [] = Unit {0}
AllHold (r ∷ rs) = Claim r × AllHold rs
