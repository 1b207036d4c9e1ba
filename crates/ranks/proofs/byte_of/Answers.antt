-- An entry's byte is the table's at the entry's place.
use Rattle.std.proofs.Common.{◌≡◌, ◌+◌, ◌*◌, arith}
use Rattle.std.proofs.lemmas.Option.{gets}
use Rattle.std.proofs.lemmas.Grind.{common_steps}
use Rattle.ranks.specs.Entries.{entry_bytes}
use Rattle.ranks.proofs.Bytes.{slice_get-part}
use Rattle.ranks.proofs.byte_of.Goals as goal

pub returns : goal.returns
returns c =
    let a = c.args in
    let h : c.in_ok-checked_add.field-0 ≡ a.entry * entry_bytes + a.i = omega arith in
    let e = slice_get-part (a.entry * entry_bytes) entry_bytes a.down.now a.i (omega arith) in
    grind (arith, common_steps, gets)
