-- The two walks over a tree, by anyone's tables: ranks from the last node up, then entries and group numbers from the first node on.
use Rattle.std.specs.Prelude.{Bool, true, false, List, [], ◌∷◌, ◌++◌, ℕ, zero, suc, ◌+◌, ◌*◌, eqb, get_or, take, drop}
use Rattle.lists.specs.Pick.{pick}
use Rattle.chains.specs.Limits.{max_settings}
use Rattle.chains.specs.Grammar.{Grammar, width}
use Rattle.chains.specs.Tree.{Bush, nil, grow}
use Rattle.ranks.specs.Entries.{up_entry, down_entry, labels, entry_bytes, none}

-- the tables that a sheet is grouped by: counts of the plausible and of the feasible sets, up table, down table
pub record Tables : Type 0 where
  pub plausible_counts : List ℕ
  pub feasible_counts : List ℕ
  pub up : List ℕ
  pub down : List ℕ

abbrev pub tables : List ℕ → List ℕ → List ℕ → List ℕ → Tables
tables c d u w = record { plausible_counts = c; feasible_counts = d; up = u; down = w }

-- the plausible ranks of a forest's roots, each read from the up table by its children's
unfoldable pub ranks : Grammar → Tables → Bush → List ℕ
ranks G T nil = []
ranks G T (grow p cs rest) = get_or T.up (up_entry G T.plausible_counts p (ranks G T cs)) none ∷ ranks G T rest

-- the down entry of a node: by its production, its feasible rank and its children's plausible ranks
abbrev pub entry_of : Grammar → Tables → ℕ → ℕ → Bush → ℕ
entry_of G T p f cs = down_entry G T.plausible_counts T.feasible_counts p f (ranks G T cs)

-- the feasible rank that the down entry e gives to child j, and the label that it gives to setting a of slot s
abbrev pub given : Tables → ℕ → ℕ → ℕ
given T e j = get_or T.down (e * entry_bytes + labels + j) none

abbrev pub label_in : Tables → ℕ → ℕ → ℕ → ℕ
label_in T e s a = get_or T.down (e * entry_bytes + (s * max_settings + a)) none

-- what is told of each node, in list order: plausible rank, feasible rank, down entry. φ j is the feasible rank of the j-th root
unfoldable pub places : Grammar → Tables → Bush → (ℕ → ℕ) → List ℕ
places G T nil φ = []
places G T (grow p cs rest) φ =
    get_or T.up (up_entry G T.plausible_counts p (ranks G T cs)) none ∷ φ 0 ∷ entry_of G T p (φ 0) cs
    ∷ (places G T cs (given T (entry_of G T p (φ 0) cs)) ++ places G T rest (λ j. φ (suc j)))

-- ── group numbers ──
-- an occurrence that has its number: its label, and the number
abbrev pub Held : Type 0
Held = ℕ × ℕ

-- the number of the first that has the label x; where none has, the number n
abbrev pub holder : ℕ → List Held → ℕ → ℕ
holder x [] n = n
holder x (h ∷ hs) n = pick (eqb h.0 x) h.1 (holder x hs n)

-- whether one has the label x
abbrev pub holds : ℕ → List Held → Bool
holds x [] = false
holds x (h ∷ hs) = pick (eqb h.0 x) true (holds x hs)

-- the numbers of further occurrences with the labels xs, after those held; n is the next unused number
unfoldable pub numbered : List Held → ℕ → List ℕ → List ℕ
numbered hs n [] = []
numbered hs n (x ∷ xs) = holder x hs n ∷ numbered (hs ++ (x, holder x hs n) ∷ []) (pick (holds x hs) n (suc n)) xs

-- the next unused number after them
unfoldable pub unused : List Held → ℕ → List ℕ → ℕ
unused hs n [] = n
unused hs n (x ∷ xs) = unused (hs ++ (x, holder x hs n) ∷ []) (pick (holds x hs) n (suc n)) xs

-- the labels of settings a, a + 1, .. of slot s, n of them; and those of the children of the kinds ks, from slot s on
unfoldable pub slot_labels : Tables → ℕ → ℕ → ℕ → ℕ → List ℕ
slot_labels T e s a zero = []
slot_labels T e s a (suc n) = label_in T e s a ∷ slot_labels T e s (suc a) n

unfoldable pub kid_labels : Grammar → Tables → ℕ → ℕ → List ℕ → List ℕ
kid_labels G T e s [] = []
kid_labels G T e s (k ∷ ks) = slot_labels T e s 0 (G.settings k) ++ kid_labels G T e (suc s) ks

-- labels with the numbers they have
abbrev pub held : List ℕ → List ℕ → List Held
held [] ns = []
held (x ∷ xs) [] = []
held (x ∷ xs) (n ∷ ns) = (x, n) ∷ held xs ns

-- the slot 0 of the node with production p and entry e, whose settings have the numbers own
abbrev pub own_held : Grammar → Tables → ℕ → ℕ → List ℕ → List Held
own_held G T p e own = held (slot_labels T e 0 0 (width G p 0)) own

-- the group numbers of a forest's settings, by node and then by setting, and the next unused number after them.
-- owns has the numbers of the roots' settings, one root after another; n is the next unused number
pub record Numbered : Type 0 where
  pub list : List ℕ
  pub next : ℕ

unfoldable pub walk : Grammar → Tables → Bush → (ℕ → ℕ) → List ℕ → ℕ → Numbered
walk G T nil φ owns n = record { list = []; next = n }
walk G T (grow p cs rest) φ owns n =
    let e = entry_of G T p (φ 0) cs in
    let own = take (width G p 0) owns in
    let hs = own_held G T p e own in
    let xs = kid_labels G T e 1 (G.kids p) in
    let inner = walk G T cs (given T e) (numbered hs n xs) (unused hs n xs) in
    let outer = walk G T rest (λ j. φ (suc j)) (drop (width G p 0) owns) inner.next in
    record { list = own ++ inner.list ++ outer.list; next = outer.next }

-- the whole tree: the root's feasible rank is its plausible rank, and its own settings are numbered first
unfoldable pub root_entry : Grammar → Tables → Bush → ℕ
root_entry G T nil = 0
root_entry G T (grow p cs rest) = entry_of G T p (get_or (ranks G T (grow p cs rest)) 0 0) cs

unfoldable pub root_labels : Grammar → Tables → Bush → List ℕ
root_labels G T nil = []
root_labels G T (grow p cs rest) = slot_labels T (root_entry G T (grow p cs rest)) 0 0 (width G p 0)

abbrev pub started : Grammar → Tables → Bush → ℕ → ℕ
started G T f j = get_or (ranks G T f) j 0

abbrev pub group_numbers : Grammar → Tables → Bush → Numbered
group_numbers G T f = walk G T f (started G T f) (numbered [] 0 (root_labels G T f)) (unused [] 0 (root_labels G T f))
