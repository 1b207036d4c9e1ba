-- DEMAND 3 ON FIG. 1: two swaps to which it applies, one below the root and one of the root itself, and what it says of them.
use Rattle.std.specs.Prelude.{◌≡◌, ◌↔◌, List, [], ◌∷◌, ℕ, ◌<◌}
use Rattle.lists.specs.Refusals.{accepted}
use Rattle.book.specs.Format.{grammar}
use Rattle.tables.specs.Promise as tables
use Rattle.numbering.specs.Walk.{Tables}
use Rattle.numbering.specs.Promise as numbering
use Rattle.numbering.specs.Places.{plausible_rank, feasible_rank, down_entry_of, number_of}
use Rattle.claims.specs.Build.{LeftBy}
use Rattle.claims.specs.Replaced.{Replacement, Unchanged}
use Rattle.claims.specs.Examples.{book, grouped, Claim}

-- Same holds of what any two calls left, one with the sheet l and one with l', by what any accepted build of the book left and with any room
abbrev pub AfterCalls : (l l' : List ℕ) → (numbering.Lent → numbering.Lent → Type 0) → Type 0
AfterCalls l l' Same = (m₀ m : tables.Lent) (made : List ℕ) (T T' : Tables) (n₀ n n₀' n' : numbering.Lent) (counts counts' : List ℕ)
    → tables.BuildDue book m₀ (accepted made) m → LeftBy (grammar book) m T → LeftBy (grammar book) m T'
    → numbering.CallDue book l T n₀ (accepted counts) n → numbering.CallDue book l' T' n₀' (accepted counts') n' → Same n n'

-- node i, which is of the kind i, has the same ranks in both; and its settings a and b share a group in the one exactly when in the other
pub record SameAt (l l' : List ℕ) (i : ℕ) (n n' : numbering.Lent) : Type 0 where
  pub plausible : plausible_rank n.nodes i ≡ plausible_rank n'.nodes i
  pub feasible : feasible_rank n.nodes i ≡ feasible_rank n'.nodes i
  pub shared : (a b : ℕ) → a < (grammar book).settings i → b < (grammar book).settings i
      → (number_of (grammar book) l n.groups (i, a) ≡ number_of (grammar book) l n.groups (i, b))
      ↔ (number_of (grammar book) l' n'.groups (i, a) ≡ number_of (grammar book) l' n'.groups (i, b))

pub record Swaps : Type 0 where
  -- sheets 0 2 3 and 0 2 4: the subtree of node 1, an X, is 2 3 in the one and 2 4 in the other. Root and node 1 stay as they are, and the root's entry too
  pub below : Replacement (grammar book) (0 ∷ 2 ∷ 3 ∷ []) (0 ∷ 2 ∷ 4 ∷ [])
  pub at_node_1 : below.pre ≡ 0 ∷ []
  pub below_unchanged : AfterCalls (0 ∷ 2 ∷ 3 ∷ []) (0 ∷ 2 ∷ 4 ∷ []) (λ n n'. (t : numbering.TreeOf (grammar book) (0 ∷ 2 ∷ 3 ∷ [])) → Unchanged below t n n')
  pub below_same : AfterCalls (0 ∷ 2 ∷ 3 ∷ []) (0 ∷ 2 ∷ 4 ∷ [])
      (λ n n'. SameAt (0 ∷ 2 ∷ 3 ∷ []) (0 ∷ 2 ∷ 4 ∷ []) 0 n n' × SameAt (0 ∷ 2 ∷ 3 ∷ []) (0 ∷ 2 ∷ 4 ∷ []) 1 n n'
      × (down_entry_of n.nodes 0 ≡ down_entry_of n'.nodes 0))
  -- node 1's own entry does not stay: 13 in the one; 12 in the other, which is a row of the worked examples
  pub own_entry : Claim (grouped (0 ∷ 2 ∷ 3 ∷ []) (3 ∷ 10 ∷ 1 ∷ []) (0 ∷ 0 ∷ 0 ∷ 0 ∷ 0 ∷ 13 ∷ 1 ∷ 0 ∷ 18 ∷ []) (0 ∷ 0 ∷ 0 ∷ 0 ∷ 0 ∷ 0 ∷ 0 ∷ 0 ∷ 0 ∷ 0 ∷ []))
  -- sheets 0 1 3 and 0 1 4: the root's own subtree is replaced, and of all nodes the root alone stays
  pub whole : Replacement (grammar book) (0 ∷ 1 ∷ 3 ∷ []) (0 ∷ 1 ∷ 4 ∷ [])
  pub at_the_root : whole.pre ≡ []
  pub whole_unchanged : AfterCalls (0 ∷ 1 ∷ 3 ∷ []) (0 ∷ 1 ∷ 4 ∷ []) (λ n n'. (t : numbering.TreeOf (grammar book) (0 ∷ 1 ∷ 3 ∷ [])) → Unchanged whole t n n')
  pub whole_same : AfterCalls (0 ∷ 1 ∷ 3 ∷ []) (0 ∷ 1 ∷ 4 ∷ []) (SameAt (0 ∷ 1 ∷ 3 ∷ []) (0 ∷ 1 ∷ 4 ∷ []) 0)
