-- Where a sheet call tells what: in the node slice three places for each node, in the group slice one for each setting, by node and then by setting.
use Rattle.std.specs.Prelude.{List, ℕ, ◌+◌, ◌*◌, get_or, take}
use Rattle.chains.specs.Grammar.{Grammar}
use Rattle.chains.specs.Tree.{Inst}
use Rattle.sheet.specs.Reading.{all_settings}

-- the plausible rank, the feasible rank and the down entry of node i
abbrev pub plausible_rank : List ℕ → ℕ → ℕ
plausible_rank nodes i = get_or nodes (3 * i) 0

abbrev pub feasible_rank : List ℕ → ℕ → ℕ
feasible_rank nodes i = get_or nodes (3 * i + 1) 0

abbrev pub down_entry_of : List ℕ → ℕ → ℕ
down_entry_of nodes i = get_or nodes (3 * i + 2) 0

-- the place of a setting: behind the settings of all nodes before its own
abbrev pub place_of : Grammar → List ℕ → Inst → ℕ
place_of G l x = all_settings G (take x.0 l) + x.1

-- the group number of a setting
abbrev pub number_of : Grammar → List ℕ → List ℕ → Inst → ℕ
number_of G l groups x = get_or groups (place_of G l x) 0
