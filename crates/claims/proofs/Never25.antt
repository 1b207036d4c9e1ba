-- A sheet call by what a build of its own book left is never refused with 25.
use mathlib.Core.Path.{◌≡◌, refl}
use mathlib.Core.Logic.{inl, inr}
use mathlib.Core.List.{List, [], ◌∷◌, ◌++◌}
use Prim.Native.Nat.{ℕ, suc, ◌+◌, ◌*◌, ◌≤◌, ◌<◌}
use native.Mathlib.Omega.{arith}
use lib.ListN.{length, get_or, drop}
use Rattle.lists.specs.Refusals.{accepted}
use Rattle.lists.proofs.Carries.{Carries}
use Rattle.chains.specs.Grammar.{Grammar, Lawful}
use Rattle.chains.specs.Tree.{Bush, Kinded, Sub}
use Rattle.chains.proofs.Range.{root_exists}
use Rattle.chains.proofs.WellKinded.{kinded_count}
use Rattle.book.specs.Format.{grammar}
use Rattle.sheet.specs.Reading.{all_settings}
use Rattle.sheet.specs.Refusals.{SheetDue}
use Rattle.sheet.proofs.Refusals.{row}
use Rattle.sheet.proofs.Trees.{sheet_tree}
use Rattle.ranks.proofs.Numbers.{up_entry_below, down_entry_below}
use Rattle.tables.specs.Promise as tables
use Rattle.numbering.specs.Walk.{Tables, ranks, given, places, started, group_numbers}
use Rattle.numbering.specs.Places.{feasible_rank}
use Rattle.numbering.specs.Promise.{Lent, TreeOf, BigCount, BadUp, BadRoot, BadDown, entry_at, Applies, of_sheet, short_counts, short_room, big_count, bad_up, bad_root, bad_down, CallDue}
use Rattle.claims.specs.Build.{LeftBy}
use Rattle.claims.specs.Own.{Never25}
use Rattle.claims.proofs.Served.{Served, start_count, built_lawful, built_serves}
use Rattle.claims.proofs.SheetRows.{sheet_row}
use Rattle.claims.proofs.Chosen.{ranks_below, in_place, here, started_below, handed, feasible_below}

module _ {G : Grammar} (L : Lawful G) {s f : List ℕ} {T : Tables} (served : Served G s f T) where
  counts_few : BigCount G T → ⊥
  counts_few (k, h, inl l) = omega (arith, served.plausible.few k h)
  counts_few (k, h, inr l) = omega (arith, served.feasible.few k h)

  module _ (tree : Bush) (kinded : Kinded G tree (G.start ∷ [])) where
    abbrev told : List ℕ
    told = places G T tree (started G T tree)

    itself : Carries told 0 told
    itself j h = let e : 0 + j ≡ j = omega arith in rw e refl

    up_good : (i q : ℕ) (ds : Bush) → Sub tree 0 i q ds → BadUp G T q ds → ⊥
    up_good i q ds t bad =
        let (there, below) = in_place L served tree kinded told itself i q ds t in
        let small = ranks_below L served ds (G.kids q) below in
        let inside = up_entry_below G T.plausible_counts q G.prods (ranks G T ds) there small in
        let low = (served.up q (ranks G T ds) there small).below in
        elim bad [ inl l ↦ omega (arith, served.up_room) | inr l ↦ omega arith ]

    root_good : BadRoot G T tree → ⊥
    root_good bad = omega (arith, started_below L served tree kinded told itself, start_count L served)

    down_good : (i q : ℕ) (ds : Bush) → Sub tree 0 i q ds → BadDown G T q (entry_at G T tree i) → ⊥
    down_good i q ds t bad =
        let (there, below) = in_place L served tree kinded told itself i q ds t in
        let small = ranks_below L served ds (G.kids q) below in
        let low = feasible_below L served tree kinded told itself i q ds t in
        let inside = down_entry_below G T.plausible_counts T.feasible_counts q G.prods (feasible_rank told i) (ranks G T ds) there low small in
        let at = (here L served tree kinded told itself i q ds t).entry in
        elim bad [ inl l ↦ omega (arith, served.down_room) | inr l ↦ kid_good l.0 l.1 l.2 ]
      where
        kid_good : (j : ℕ) → j < length (G.kids q) → get_or T.feasible_counts (get_or (G.kids q) j 0) 0 ≤ given T (entry_at G T tree i) j → ⊥
        kid_good j h l =
            let below = (in_place L served tree kinded told itself i q ds t).1 in
            let (m, r) = root_exists ds (suc i) j (rw (kinded_count G ds (G.kids q) below) h) in
            let low = (handed L served tree kinded told itself i q ds t (feasible_below L served tree kinded told itself i q ds t) j m r).below in
            omega (arith, (here L served tree kinded told itself i q ds t).handed j m r)

-- a sheet that the sheet check accepts has a tree
tree_of : (b l checked : List ℕ) → SheetDue b l (accepted checked) → TreeOf (grammar b) l
tree_of b l checked sound =
    let fits = ((sheet_tree b l checked).0 sound).0 in
    record { tree = fits.tree; kinded = fits.drawn.kinded; reads = fits.drawn.bytes }

-- a build of the book b left m, and T has it; n₀ is lent to a call with the sheet l
module _ {b l : List ℕ} {m₀ m : tables.Lent} {entries : List ℕ} {T : Tables} {n₀ : Lent} (build : tables.BuildDue b m₀ (accepted entries) m) (taken : LeftBy (grammar b) m T) where
  -- no row applies but those before 25
  pub below_25 : {n p t : ℕ} → Applies b l T n₀ n p t → n < 25
  below_25 (of_sheet a) = let h = sheet_row (row a) in omega arith
  below_25 (short_counts h) = omega arith
  below_25 (short_room h) = omega arith
  below_25 (big_count h) = absurd (counts_few (built_lawful build) (built_serves build taken) h)
  below_25 (bad_up u i q ds s h) = absurd (up_good (built_lawful build) (built_serves build taken) u.tree u.kinded i q ds s h)
  below_25 (bad_root u h) = absurd (root_good (built_lawful build) (built_serves build taken) u.tree u.kinded h)
  below_25 (bad_down u i q ds s h) = absurd (down_good (built_lawful build) (built_serves build taken) u.tree u.kinded i q ds s h)

  -- ── a sheet that the sheet check accepts, and room for what is told of it ──
  module _ {checked : List ℕ} (sound : SheetDue b l (accepted checked)) (nodes_fit : 3 * length l ≤ length n₀.nodes)
      (groups_fit : all_settings (grammar b) l ≤ length n₀.groups) where
    pub no_row : (n p t : ℕ) → Applies b l T n₀ n p t → ⊥
    no_row n p t (of_sheet a) = sound.1 (n, p) a
    no_row n p t (short_counts (inl h)) = omega (arith, taken.plausible_here)
    no_row n p t (short_counts (inr h)) = omega (arith, taken.feasible_here)
    no_row n p t (short_room (inl h)) = omega arith
    no_row n p t (short_room (inr h)) = omega arith
    no_row n p t (big_count h) = let z : 25 < 25 = below_25 (big_count h) in omega arith
    no_row n p t (bad_up u i q ds s h) = let z : 25 < 25 = below_25 (bad_up u i q ds s h) in omega arith
    no_row n p t (bad_root u h) = let z : 25 < 25 = below_25 (bad_root u h) in omega arith
    no_row n p t (bad_down u i q ds s h) = let z : 25 < 25 = below_25 (bad_down u i q ds s h) in omega arith

    -- so the call is accepted
    accepted_with_own_tables : (counts : List ℕ) × (n : Lent) × CallDue b l T n₀ (accepted counts) n
    accepted_with_own_tables =
        let G = grammar b in
        let u = tree_of b l checked sound in
        let f = u.tree in
        let n : Lent = record { nodes = places G T f (started G T f) ++ drop (3 * length l) n₀.nodes; groups = (group_numbers G T f).list ++ drop (all_settings G l) n₀.groups } in
        (length l ∷ all_settings G l ∷ (group_numbers G T f).next ∷ [], n, (no_row, record { of = u; nodes = refl; groups = refl; counted = refl }))

  -- THEOREM: by what a build of its own book left a sheet call is never refused with 25, and what the sheet check accepts it groups
  pub never_25 : Never25 b l T n₀
  never_25 = record {
    refused_below = λ n number place ((t, first), e). below_25 first.0;
    accepts = λ checked sound nodes_fit groups_fit. accepted_with_own_tables sound (omega arith) (omega arith);
  }
