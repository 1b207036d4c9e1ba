-- What is told of each node, found at the node's number: its ranks and its entry, and that its children have theirs from it.
use mathlib.Core.Path.{◌≡◌, refl, sym, ap₂}
use mathlib.Core.Logic.{inl, inr}
use mathlib.Core.List.{List, ◌∷◌, ◌++◌, map}
use Prim.Native.Nat.{ℕ, zero, suc, ◌+◌, ◌*◌}
use native.Mathlib.Omega.{arith}
use lib.ListN.{length, get_or, length-append}
use Rattle.lists.proofs.Carries.{Carries, carries_first, carries_rest, carries_front, carries_back, carries_at}
use Rattle.chains.specs.Grammar.{Grammar}
use Rattle.chains.specs.Tree.{Bush, nil, grow, size, Root, Sub, roots}
use Rattle.ranks.specs.Entries.{up_entry, none}
use Rattle.numbering.specs.Walk.{Tables, ranks, entry_of, given, places}
use Rattle.numbering.specs.Places.{plausible_rank, feasible_rank, down_entry_of}

module _ (G : Grammar) (T : Tables) where
  -- the plausible rank that is read for a node with the production q and the children ds
  abbrev pub read_rank : ℕ → Bush → ℕ
  read_rank q ds = get_or T.up (up_entry G T.plausible_counts q (ranks G T ds)) none

  -- what the node slice tells of the node i, whose production is q and whose children are ds
  pub record Visited (nodes : List ℕ) (i q : ℕ) (ds : Bush) : Type 0 where
    pub plausible : plausible_rank nodes i ≡ read_rank q ds
    pub entry : down_entry_of nodes i ≡ entry_of G T q (feasible_rank nodes i) ds
    pub kids : ranks G T ds ≡ map (plausible_rank nodes) (roots ds (suc i))
    pub handed : (j m : ℕ) → Root ds (suc i) j m → feasible_rank nodes m ≡ given T (down_entry_of nodes i) j

  pub places_long : (f : Bush) (φ : ℕ → ℕ) → length (places G T f φ) ≡ 3 * size f
  unfolding places
  places_long nil φ = refl
  places_long (grow p cs rest) φ =
      let e = entry_of G T p (φ 0) cs in
      let a = places_long cs (given T e) in
      let b = places_long rest (λ j. φ (suc j)) in
      omega (arith, length-append (places G T cs (given T e)) (places G T rest (λ j. φ (suc j))))

  module _ (nodes : List ℕ) where
    -- the forest at n is told of from its own places on; φ j is the feasible rank of its j-th root
    abbrev NodesTold : Bush → ℕ → (ℕ → ℕ) → Type 0
    NodesTold f n φ = Carries nodes (3 * n) (places G T f φ)

    -- a first tree's root, its children and the other trees
    pub record Parts (p : ℕ) (cs rest : Bush) (n : ℕ) (φ : ℕ → ℕ) : Type 0 where
      pub plausible : plausible_rank nodes n ≡ read_rank p cs
      pub feasible : feasible_rank nodes n ≡ φ 0
      pub entry : down_entry_of nodes n ≡ entry_of G T p (φ 0) cs
      pub children : NodesTold cs (suc n) (given T (entry_of G T p (φ 0) cs))
      pub others : NodesTold rest (suc (n + size cs)) (λ j. φ (suc j))

    pub parts : (p : ℕ) (cs rest : Bush) (n : ℕ) (φ : ℕ → ℕ) → NodesTold (grow p cs rest) n φ → Parts p cs rest n φ
    unfolding places
    parts p cs rest n φ h =
        let e = entry_of G T p (φ 0) cs in
        let inner = places G T cs (given T e) in
        let outer = places G T rest (λ j. φ (suc j)) in
        let h₁ = carries_rest nodes (3 * n) (read_rank p cs) (φ 0 ∷ e ∷ (inner ++ outer)) h in
        let h₂ = carries_rest nodes (suc (3 * n)) (φ 0) (e ∷ (inner ++ outer)) h₁ in
        let h₃ = carries_rest nodes (suc (suc (3 * n))) e (inner ++ outer) h₂ in
        let a₁ : suc (3 * n) ≡ 3 * n + 1 = omega arith in
        let a₂ : suc (suc (3 * n)) ≡ 3 * n + 2 = omega arith in
        let a₃ : suc (suc (suc (3 * n))) ≡ 3 * suc n = omega arith in
        let a₄ : suc (suc (suc (3 * n))) + length inner ≡ 3 * suc (n + size cs) = omega (arith, places_long cs (given T e)) in
        record {
          plausible = carries_first nodes (3 * n) (read_rank p cs) (φ 0 ∷ e ∷ (inner ++ outer)) h;
          feasible = rw a₁ at (carries_first nodes (suc (3 * n)) (φ 0) (e ∷ (inner ++ outer)) h₁);
          entry = rw a₂ at (carries_first nodes (suc (suc (3 * n))) e (inner ++ outer) h₂);
          children = carries_at nodes (suc (suc (suc (3 * n)))) (3 * suc n) inner a₃ (carries_front nodes (suc (suc (suc (3 * n)))) inner outer h₃);
          others = carries_at nodes (suc (suc (suc (3 * n))) + length inner) (3 * suc (n + size cs)) outer a₄ (carries_back nodes (suc (suc (suc (3 * n)))) inner outer h₃);
        }

    -- the roots have the feasible ranks that they are given
    pub roots_told : (f : Bush) (n : ℕ) (φ : ℕ → ℕ) → NodesTold f n φ → (j m : ℕ) → Root f n j m → feasible_rank nodes m ≡ φ j
    roots_told nil n φ h j m r = absurd r
    roots_told (grow p cs rest) n φ h zero m r = rw r (parts p cs rest n φ h).feasible
    roots_told (grow p cs rest) n φ h (suc j) m r = roots_told rest (suc (n + size cs)) (λ j. φ (suc j)) (parts p cs rest n φ h).others j m r

    -- and the plausible ranks that are read for them
    pub ranks_told : (f : Bush) (n : ℕ) (φ : ℕ → ℕ) → NodesTold f n φ → ranks G T f ≡ map (plausible_rank nodes) (roots f n)
    unfolding ranks
    ranks_told nil n φ h = refl
    ranks_told (grow p cs rest) n φ h =
        let t = parts p cs rest n φ h in
        ap₂ ◌∷◌ (sym t.plausible) (ranks_told rest (suc (n + size cs)) (λ j. φ (suc j)) t.others)

    -- THEOREM: every node is told of at its number
    pub visited : (f : Bush) (n : ℕ) (φ : ℕ → ℕ) → NodesTold f n φ → (i q : ℕ) (ds : Bush) → Sub f n i q ds → Visited nodes i q ds
    visited nil n φ h i q ds s = absurd s
    visited (grow p cs rest) n φ h i q ds (inl (ei, ep, ec)) = rw (ei, ← ep, ← ec) here
      where
        here : Visited nodes n p cs
        here =
            let t = parts p cs rest n φ h in
            let φ' = given T (entry_of G T p (φ 0) cs) in
            record {
              plausible = t.plausible;
              entry = rw t.feasible t.entry;
              kids = ranks_told cs (suc n) φ' t.children;
              handed = λ j m r. rw t.entry (roots_told cs (suc n) φ' t.children j m r);
            }
    visited (grow p cs rest) n φ h i q ds (inr (inl s)) =
        visited cs (suc n) (given T (entry_of G T p (φ 0) cs)) (parts p cs rest n φ h).children i q ds s
    visited (grow p cs rest) n φ h i q ds (inr (inr s)) =
        visited rest (suc (n + size cs)) (λ j. φ (suc j)) (parts p cs rest n φ h).others i q ds s
