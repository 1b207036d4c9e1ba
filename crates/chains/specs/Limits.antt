-- The limits that the paper sets. No law below depends on their being these numbers unless it names them.
use Rattle.std.specs.Prelude.{ℕ}

-- settings of a kind
abbrev pub max_settings : ℕ
max_settings = 8

-- children of a production
abbrev pub max_kids : ℕ
max_kids = 4

abbrev pub max_kinds : ℕ
max_kinds = 32

abbrev pub max_prods : ℕ
max_prods = 64

-- members of a plausible or a feasible set
abbrev pub max_members : ℕ
max_members = 64

abbrev pub max_nodes : ℕ
max_nodes = 4096

abbrev pub max_levels : ℕ
max_levels = 64

-- the label of what has none
abbrev pub no_label : ℕ
no_label = 255
