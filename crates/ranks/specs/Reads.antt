-- What a read of the up or the down table finds.
use Rattle.std.specs.Prelude.{◌≡◌, Option, Some, None, List, [], ◌∷◌, ℕ, zero, suc, ◌+◌, ◌*◌, ◌≤◌, ◌<◌, length, get_or, take, map}
use Rattle.lists.specs.Part.{part}
use Rattle.chains.specs.Limits.{max_kids}
use Rattle.ranks.specs.Entries.{choices, choice, labels, entry_bytes, none}
use Rattle.ranks.specs.declared.Plausible.{Plausible}
use Rattle.ranks.specs.declared.Chosen.{Chosen}

-- of the children that are chosen for: their counts, and the ranks' numbers
abbrev pub counts_of : List Chosen → List ℕ
counts_of = map (λ c. c.count)

abbrev pub numbers : List Chosen → List ℕ
numbers = map (λ c. c.rank.0)

-- the n places from i on
unfoldable pub from : ℕ → ℕ → List ℕ
from i zero = []
from i (suc n) = i ∷ from (suc i) n

-- the children's places: a read is given a count for each child, and each stands for a kind of its own
abbrev pub places : List ℕ
places = from 0 max_kids

-- the up entry of a choice with these counts and ranks, where the production's entries begin at start
abbrev pub up_number : ℕ → List ℕ → List ℕ → ℕ
up_number start counts ranks = start + choice counts places ranks

-- the down entry of a feasible rank f and a choice
abbrev pub down_number : ℕ → List ℕ → ℕ → List ℕ → ℕ
down_number start counts f ranks = start + (f * choices counts places + choice counts places ranks)

-- THE PROMISE of an up read: the byte of entry e, or none where the slice has no such byte
abbrev pub UpFinds : List ℕ → ℕ → Option Plausible → Type 0
UpFinds up e (Some r) = (e < length up) × (r.0 ≡ get_or up e none)
UpFinds up e None = length up ≤ e

-- THE PROMISE of a down read: the entry's number, or none where the entry is not whole within the slice
abbrev pub DownFinds : List ℕ → ℕ → Option ℕ → Type 0
DownFinds down e (Some x) = ((e + 1) * entry_bytes ≤ length down) × (x ≡ e)
DownFinds down e None = length down < (e + 1) * entry_bytes

-- the bytes of a down entry, its label at occurrence o, and the feasible rank of its child j, from 0 on; none where there is no such byte
abbrev pub entry_at : List ℕ → ℕ → List ℕ
entry_at down e = part (e * entry_bytes) entry_bytes down

abbrev pub label_at : List ℕ → ℕ → ℕ → ℕ
label_at down e o = get_or (take labels (entry_at down e)) o none

abbrev pub child_rank_at : List ℕ → ℕ → ℕ → ℕ
child_rank_at down e j = get_or (entry_at down e) (labels + j) none
