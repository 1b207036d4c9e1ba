-- The walk over a tree as the list of its visits, node by node in list order. The parts of the call speak in these words; no promise cites this page.
use Rattle.std.specs.Prelude.{List, [], ◌∷◌, ◌++◌, ℕ, suc, get_or, take, drop}
use Rattle.chains.specs.Grammar.{Grammar, width}
use Rattle.chains.specs.Tree.{Bush, nil, grow}
use Rattle.ranks.specs.Entries.{up_entry, none}
use Rattle.numbering.specs.Walk.{Tables, ranks, entry_of, given, Held, numbered, unused, kid_labels, own_held, root_labels, started, walk}

-- a visit of a node: its production, the forest below it, its feasible rank, the numbers of its own settings, and the next unused number on arrival
pub record Visit : Type 0 where
  pub prod : ℕ
  pub below : Bush
  pub feasible : ℕ
  pub own : List ℕ
  pub next : ℕ

-- what stands where the visits have ended; no law depends on it
abbrev pub nowhere : Visit
nowhere = record { prod = 0; below = nil; feasible = 0; own = []; next = 0 }

module _ (G : Grammar) (T : Tables) where
  -- the plausible rank of a node with the production q and the forest ds below it
  abbrev pub rank_of : ℕ → Bush → ℕ
  rank_of q ds = get_or T.up (up_entry G T.plausible_counts q (ranks G T ds)) none

  abbrev pub entry_in : Visit → ℕ
  entry_in v = entry_of G T v.prod v.feasible v.below

  -- the node's own settings with their numbers, and the labels of its children's
  abbrev pub held_in : Visit → List Held
  held_in v = own_held G T v.prod (entry_in v) v.own

  abbrev pub labels_in : Visit → List ℕ
  labels_in v = kid_labels G T (entry_in v) 1 (G.kids v.prod)

  -- the numbers that the children's settings get, and the next unused number after them
  abbrev pub handed : Visit → List ℕ
  handed v = numbered (held_in v) v.next (labels_in v)

  abbrev pub after : Visit → ℕ
  after v = unused (held_in v) v.next (labels_in v)

  -- the first visit of the forest grow p cs rest
  abbrev pub arrival : ℕ → Bush → (ℕ → ℕ) → List ℕ → ℕ → Visit
  arrival p cs φ owns n = record { prod = p; below = cs; feasible = φ 0; own = take (width G p 0) owns; next = n }

  -- φ j is the feasible rank of the j-th root; owns and n are as in the walk
  unfoldable pub visits : Bush → (ℕ → ℕ) → List ℕ → ℕ → List Visit
  visits nil φ owns n = []
  visits (grow p cs rest) φ owns n =
      let v = arrival p cs φ owns n in
      v ∷ (visits cs (given T (entry_in v)) (handed v) (after v)
      ++ visits rest (λ j. φ (suc j)) (drop (width G p 0) owns) (walk G T cs (given T (entry_in v)) (handed v) (after v)).next)

  -- those of the whole tree
  abbrev pub journey : Bush → List Visit
  journey f = visits f (started G T f) (numbered [] 0 (root_labels G T f)) (unused [] 0 (root_labels G T f))

  abbrev pub visit : Bush → ℕ → Visit
  visit f i = get_or (journey f) i nowhere
