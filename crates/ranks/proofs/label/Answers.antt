-- The labels are an entry's first bytes.
use Rattle.std.proofs.Common.{rules, sym, arith}
use Rattle.std.proofs.lemmas.List.{get_or-take}
use Rattle.std.proofs.lemmas.Option.{unwrap_or-slice_get}
use Rattle.ranks.specs.Entries.{labels, none}
use Rattle.ranks.specs.Reads.{entry_at}
use Rattle.ranks.proofs.Bytes.{get_or-part_past}
use Rattle.ranks.proofs.label.Goals as goal

pub returns-then-o-lt-LABELS : goal.returns-then-o-lt-LABELS
returns-then-o-lt-LABELS c =
    let a = c.args in
    rw (get_or-take labels (entry_at a.down.now a.entry) a.o none (omega arith)) (search (rules, unwrap_or-slice_get))

pub returns-else-o-lt-LABELS : goal.returns-else-o-lt-LABELS
returns-else-o-lt-LABELS c =
    let a = c.args in
    sym (get_or-part_past 0 labels (entry_at a.down.now a.entry) a.o none (omega arith))
