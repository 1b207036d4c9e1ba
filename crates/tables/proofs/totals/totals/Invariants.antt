-- The entries of all productions, of both tables. Assumes nothing.
use mathlib.Core.Path.{◌≡◌}
use Rattle.book.specs.Format.{grammar}
use Rattle.ranks.specs.Entries.{up_start, down_start}
use Rattle.tables.proofs.totals.totals.Given as goal

abbrev pub invariant-loop-at : goal.invariant-loop-at
invariant-loop-at l =
    (l.all.up ≡ up_start (grammar l.book) l.counts l.at-index) × (l.all.down ≡ down_start (grammar l.book) l.counts l.tally l.at-index)
