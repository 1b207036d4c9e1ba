-- The numbers of the entries of the up and the down table: productions in order, within one by the ranks.
use Rattle.std.specs.Prelude.{List, [], ◌∷◌, ℕ, zero, suc, ◌+◌, ◌*◌, ◌<◌, get_or}
use Rattle.chains.specs.Limits.{max_kids, max_settings, no_label}
use Rattle.chains.specs.Grammar.{Grammar}
use Rattle.chains.specs.Grouping.{Members}

-- c has the counts of the kinds' plausible sets, d those of their feasible sets

-- ranks rs, one for each of the kinds ks, each below its kind's count
abbrev pub Ranks : List ℕ → List ℕ → List ℕ → Type 0
Ranks c ks rs = Members (λ k r. r < get_or c k 0) ks rs

-- the number of choices of a plausible grouping for each of the kinds ks
unfoldable pub choices : List ℕ → List ℕ → ℕ
choices c [] = 1
choices c (k ∷ ks) = get_or c k 0 * choices c ks

-- the number of a choice among them, given by its ranks: the first kind's counts most, the last one's least
unfoldable pub choice : List ℕ → List ℕ → List ℕ → ℕ
choice c [] rs = 0
choice c (k ∷ ks) [] = 0
choice c (k ∷ ks) (r ∷ rs) = r * choices c ks + choice c ks rs

-- the up entries of the productions before p
unfoldable pub up_start : Grammar → List ℕ → ℕ → ℕ
up_start G c zero = 0
up_start G c (suc p) = up_start G c p + choices c (G.kids p)

-- the up entry of production p and the plausible ranks rs of its children
abbrev pub up_entry : Grammar → List ℕ → ℕ → List ℕ → ℕ
up_entry G c p rs = up_start G c p + choice c (G.kids p) rs

-- the down entries of the productions before p
unfoldable pub down_start : Grammar → List ℕ → List ℕ → ℕ → ℕ
down_start G c d zero = 0
down_start G c d (suc p) = down_start G c d p + get_or d (G.left p) 0 * choices c (G.kids p)

-- the down entry of production p, the feasible rank f of its left kind and the plausible ranks rs of its children
abbrev pub down_entry : Grammar → List ℕ → List ℕ → ℕ → ℕ → List ℕ → ℕ
down_entry G c d p f rs = down_start G c d p + (f * choices c (G.kids p) + choice c (G.kids p) rs)

-- a down entry's bytes: a label for each occurrence, then a feasible rank for each child
abbrev pub labels : ℕ
labels = suc max_kids * max_settings

abbrev pub entry_bytes : ℕ
entry_bytes = labels + max_kids

-- a count, a rank and a label are bytes, of which there are so many
abbrev pub byte_values : ℕ
byte_values = 256

-- the absence of a label or a rank
abbrev pub none : ℕ
none = no_label
