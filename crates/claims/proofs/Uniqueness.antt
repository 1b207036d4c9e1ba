-- UNIQUENESS, gathered: each call's theorem stands beside its promise.
use mathlib.Core.Path.{◌≡◌, refl, sym, ◌∙◌}
use mathlib.Core.List.{[], ◌∷◌}
use lib.ListN.{get_or}
use Rattle.std.specs.Prelude.{Result}
use Rattle.refusals.specs.declared.Refused.{Refused}
use Rattle.refusals.proofs.Once.{said_by_once}
use Rattle.bookcheck.proofs.Once as book
use Rattle.book.proofs.Places.{index_once}
use Rattle.sheet.proofs.Once as sheet
use Rattle.admission.proofs.Once.{admit_once}
use Rattle.service.proofs.Word.{book_word_once, sheet_word_once}
use Rattle.ranks.proofs.Measuring.{room_once}
use Rattle.ranks.proofs.Finds.{read_up_once, read_down_once, child_rank_once, label_once, started_once}
use Rattle.tables.specs.declared.Counts as build_counts
use Rattle.tables.specs.Answer as build_answer
use Rattle.zeros.proofs.Once.{clear_once, wipe_once}
use Rattle.slices.proofs.Once.{insert_once, relabel_once, lay_once}
use Rattle.members.proofs.Once.{place_of_once, put_once}
use Rattle.members.proofs.Measuring.{too_short_once}
use Rattle.blocks.proofs.Carried.{occurrences_once}
use Rattle.blocks.proofs.SetMembers.{block_size_once, first_occurrence_once}
use Rattle.tables.proofs.Promise.{build_once}
use Rattle.numbering.specs.declared.Counts as call_counts
use Rattle.numbering.specs.Answer as call_answer
use Rattle.claims.specs.Once.{OneOutcome}
use Rattle.claims.proofs.CallOnce.{call_once}

-- what an answer says is the whole of it
built_once : (r s : Result build_counts.Counts Refused) → build_answer.said r ≡ build_answer.said s → r ≡ s
built_once = said_by_once (λ c. c.up ∷ c.down ∷ []) (λ l. record { up = get_or l 0 0; down = get_or l 1 0 }) (λ c. refl)

grouping_once : (r s : Result call_counts.Counts Refused) → call_answer.said r ≡ call_answer.said s → r ≡ s
grouping_once =
    said_by_once (λ c. c.nodes ∷ c.settings ∷ c.groups ∷ []) (λ l. record { nodes = get_or l 0 0; settings = get_or l 1 0; groups = get_or l 2 0 }) (λ c. refl)

-- THEOREM: every public call has one outcome
pub one_outcome : OneOutcome
one_outcome = record {
  check_book = book.check_once;
  index = λ b x y. index_once;
  accessor = λ x r s a b. a ∙ sym b;
  at = λ q place r s a b. a ∙ sym b;
  check_sheet = sheet.check_once;
  export_book = book_word_once;
  export_sheet = sheet_word_once;
  build = λ b m r s m₁ m₂ d e. let (a, l) = build_once b m (build_answer.said r) (build_answer.said s) m₁ m₂ d e in (built_once r s a, l);
  insert = insert_once;
  clear = clear_once;
  wipe = wipe_once;
  relabel = relabel_once;
  lay = lay_once;
  place_of = place_of_once;
  put = put_once;
  too_short = too_short_once;
  room_for = room_once;
  occurrences = occurrences_once;
  block_size = block_size_once;
  first_occurrence = first_occurrence_once;
  read_up = read_up_once;
  read_down = read_down_once;
  child_rank = child_rank_once;
  label = label_once;
  started = started_once;
  admit = admit_once;
  group_sheet = λ b l T m r s m₁ m₂ d e. let (a, k) = call_once b l T m (call_answer.said r) (call_answer.said s) m₁ m₂ d e in (grouping_once r s a, k);
}
