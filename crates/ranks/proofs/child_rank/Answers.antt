-- An entry has a rank for each of its children and no byte after them.
use Rattle.std.proofs.Common.{rules, sym, ◌+◌, ◌*◌, arith}
use Rattle.std.proofs.lemmas.Option.{unwrap_or-slice_get}
use Rattle.ranks.specs.Entries.{labels, entry_bytes, none}
use Rattle.ranks.proofs.Bytes.{get_or-part_past}
use Rattle.ranks.proofs.child_rank.Goals as goal

pub returns-then-j-lt-KIDS : goal.returns-then-j-lt-KIDS
returns-then-j-lt-KIDS c = search (rules, unwrap_or-slice_get)

pub returns-else-j-lt-KIDS : goal.returns-else-j-lt-KIDS
returns-else-j-lt-KIDS c =
    let a = c.args in
    sym (get_or-part_past (a.entry * entry_bytes) entry_bytes a.down.now (labels + a.j) none (omega arith))
