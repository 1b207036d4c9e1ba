-- The down entries of a production, for each member of the left kind. Assumes nothing.
use Rattle.ranks.specs.Entries.{choices, entry_bytes}
use Rattle.tables.specs.Shape.{kinds_from}
use Rattle.tables.specs.Fill.{DownBytes, left_many, AllChoices}
use Rattle.tables.proofs.FillRuns.{Blocks}
use Rattle.tables.proofs.fill.DownTable.run.Given as goal

abbrev pub invariant-loop-code : goal.invariant-loop-code
invariant-loop-code l =
    let p = l.self.plausible in
    let f = l.self.feasible in
    let ks = kinds_from l.v 1 in
    Blocks entry_bytes (choices p.counts.now ks) (left_many l.v f.counts.now) (AllChoices (DownBytes f.codes.now f.counts.now l.v) l.v p.codes.now p.counts.now f.codes.now f.counts.now ks l.s) l.initial.out l.at l.out l.to l.code-index
