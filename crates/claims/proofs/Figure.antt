-- The article's Fig. 1: its book is accepted, and the memory that a build leaves.
use mathlib.Core.Path.{◌≡◌, refl}
use mathlib.Core.Logic.{inl, inr}
use mathlib.Core.Bool.{true}
use mathlib.Core.List.{List, [], ◌∷◌, ◌++◌}
use Prim.Native.Nat.{ℕ, zero, suc, ◌-◌, ◌*◌, ◌<◌}
use native.Mathlib.Omega.{arith}
use lib.ListN.{length, get_or, replicate}
use Rattle.chains.specs.Limits.{max_settings, max_kids, max_members}
use Rattle.chains.specs.Labels.{relabel, joins, labels_by, index, add, canon_from}
use Rattle.chains.specs.Grouping.{unpack, pack}
use Rattle.chains.specs.State.{pairs_from}
use Rattle.book.specs.Format.{entry, ties_of, grammar}
use Rattle.bookcheck.specs.Refusals.{OutOfRange, Applies}
use Rattle.bookcheck.specs.Accepted.{Accepted}
use Rattle.bookcheck.proofs.Accepted.{accepted_book}
use Rattle.ranks.specs.Entries.{choices, choice, up_start, down_start, labels, none}
use Rattle.tables.specs.Entries.{picked, UpTable, DownTable}
use Rattle.tables.specs.State.{based}
use Rattle.tables.specs.Promise.{Lent}
use Rattle.claims.specs.Examples.{book}
use Rattle.claims.proofs.Tests.{all_below, all_ranks, same}
use Rattle.claims.proofs.BookTest.{Fair, fair_sound, kind_test, kids_test, exists_test, target_test, sooner_test, rises_test, ties_test, headless_below}
use Rattle.claims.proofs.Worked.{tie_all, tidy, rank_test, up_test, up_right, down_test, down_right}

-- ── the book ──
fair : Fair book
unfolding entry ties_of all_below kind_test kids_test exists_test target_test sooner_test rises_test ties_test headless_below
fair = record {
  known = refl;
  in_range = ranged;
  laid = record { whole = omega arith; from_front = refl; then_prods = refl; to_trailer = (omega arith, (omega arith, (omega arith, (omega arith, (omega arith, refl))))) };
  kinds_fair = refl;
  kids_fair = refl;
  ties_fair = refl;
  heads_fair = refl;
}
  where
    ranged : OutOfRange book → ⊥
    ranged (inl h) = omega arith
    ranged (inr (inl h)) = omega arith
    ranged (inr (inr (inl h))) = omega arith
    ranged (inr (inr (inr (inl h)))) = omega arith
    ranged (inr (inr (inr (inr h)))) = omega arith

pub book_free : (n p : ℕ) → Applies book n p → ⊥
book_free = fair_sound book fair

pub book_accepted : Accepted book
book_accepted = (accepted_book book 3 5 (refl, λ f a. book_free f.0 f.1 a)).0

-- ── the memory that a build leaves ──
-- codes in a set's places, zeros behind
abbrev padded : List ℕ → List ℕ
padded codes = codes ++ replicate (max_members - length codes) 0

abbrev plausible_sets : List ℕ
plausible_sets = padded (0 ∷ 8 ∷ []) ++ padded (0 ∷ 72 ∷ 576 ∷ []) ++ padded (72 ∷ 576 ∷ [])

abbrev feasible_sets : List ℕ
feasible_sets = padded (0 ∷ 8 ∷ []) ++ padded (0 ∷ 72 ∷ 576 ∷ []) ++ padded (0 ∷ 72 ∷ 576 ∷ [])

abbrev plausible_counts : List ℕ
plausible_counts = 2 ∷ 3 ∷ 2 ∷ []

abbrev feasible_counts : List ℕ
feasible_counts = 2 ∷ 3 ∷ 3 ∷ []

-- the up table: productions 0 to 4, and for each the plausible rank of its child
abbrev up_table : List ℕ
up_table = 0 ∷ 1 ∷ 1 ∷ 1 ∷ 2 ∷ 0 ∷ 0 ∷ 1 ∷ 0 ∷ []

-- the down table, a row for each entry: the labels of slot 0, those of slot 1, the child's feasible rank
abbrev both : List ℕ
both = 0 ∷ 0 ∷ []

abbrev apart_two : List ℕ
apart_two = 0 ∷ 1 ∷ []

abbrev one_block : List ℕ
one_block = 0 ∷ 0 ∷ 0 ∷ 0 ∷ []

abbrev halves : List ℕ
halves = 0 ∷ 0 ∷ 1 ∷ 1 ∷ []

abbrev nested : List ℕ
nested = 0 ∷ 1 ∷ 1 ∷ 0 ∷ []

abbrev nested_back : List ℕ
nested_back = 1 ∷ 0 ∷ 0 ∷ 1 ∷ []

abbrev EntryRow : Type 0
EntryRow = List ℕ × List ℕ × List ℕ

abbrev down_rows : List EntryRow
down_rows =
    (both, one_block, (0 ∷ [])) ∷ (both, one_block, (0 ∷ [])) ∷ (both, one_block, (0 ∷ [])) ∷ (both, one_block, (0 ∷ [])) ∷ (apart_two, nested_back, (1 ∷ [])) ∷ (apart_two, halves, (2 ∷ []))
    ∷ (one_block, one_block, (0 ∷ [])) ∷ (one_block, one_block, (0 ∷ [])) ∷ (nested, nested, (1 ∷ [])) ∷ (one_block, one_block, (0 ∷ [])) ∷ (one_block, one_block, (0 ∷ [])) ∷ (halves, halves, (2 ∷ []))
    ∷ (one_block, one_block, (0 ∷ [])) ∷ (one_block, one_block, (0 ∷ [])) ∷ (one_block, one_block, (0 ∷ [])) ∷ (one_block, one_block, (0 ∷ [])) ∷ (one_block, one_block, (0 ∷ [])) ∷ (one_block, one_block, (0 ∷ []))
    ∷ (one_block, [], []) ∷ (one_block, [], []) ∷ (halves, [], [])
    ∷ (one_block, [], []) ∷ (nested, [], []) ∷ (one_block, [], [])
    ∷ []

-- l in n places, none behind; then tail
abbrev filled : ℕ → List ℕ → List ℕ → List ℕ
filled zero l tail = tail
filled (suc n) [] tail = none ∷ filled n [] tail
filled (suc n) (x ∷ l) tail = x ∷ filled n l tail

abbrev bytes_of : List EntryRow → List ℕ
bytes_of [] = []
bytes_of (r ∷ rs) = filled max_settings r.0 (filled max_settings r.1 (filled (labels - 2 * max_settings) [] (filled max_kids r.2 (bytes_of rs))))

abbrev pub left : Lent
left = record {
  plausible = plausible_sets;
  plausible_counts = plausible_counts;
  feasible = feasible_sets;
  feasible_counts = feasible_counts;
  up = up_table;
  down = bytes_of down_rows;
}

-- ── its tables are right ──
up_tested : (p : ℕ) → p < 5 → all_ranks left.plausible_counts ((grammar book).kids p) (up_test book left.plausible left.plausible_counts left.up p) ≡ true
unfolding entry ties_of all_below all_ranks up_test rank_test picked tie_all based joins relabel labels_by index add canon_from pack unpack pairs_from choices choice up_start
up_tested zero h = refl
up_tested (suc zero) h = refl
up_tested (suc (suc zero)) h = refl
up_tested (suc (suc (suc zero))) h = refl
up_tested (suc (suc (suc (suc zero)))) h = refl
up_tested (suc (suc (suc (suc (suc p))))) h = absurd (omega arith)

pub up_is_right : UpTable (grammar book) left.plausible left.plausible_counts left.up
up_is_right = up_right book left.plausible left.plausible_counts book_accepted left.up up_tested

down_tested : (p : ℕ) → p < 5 → all_below (λ u. all_ranks left.plausible_counts ((grammar book).kids p)
    (down_test book left.plausible left.plausible_counts left.feasible left.feasible_counts left.down p u)) (get_or left.feasible_counts ((grammar book).left p) 0) ≡ true
unfolding entry ties_of all_below all_ranks down_test rank_test picked tie_all based joins relabel labels_by index add canon_from pack unpack pairs_from choices choice down_start tidy same
down_tested zero h = refl
down_tested (suc zero) h = refl
down_tested (suc (suc zero)) h = refl
down_tested (suc (suc (suc zero))) h = refl
down_tested (suc (suc (suc (suc zero)))) h = refl
down_tested (suc (suc (suc (suc (suc p))))) h = absurd (omega arith)

pub down_is_right : DownTable (grammar book) left.plausible left.plausible_counts left.feasible left.feasible_counts left.down
down_is_right = down_right book left.plausible left.plausible_counts left.feasible left.feasible_counts book_accepted left.down down_tested
