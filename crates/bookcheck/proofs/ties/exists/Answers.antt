use native.Mathlib.Omega.{arith}
use Rattle.bookcheck.proofs.Entry.{kids_long}
use Rattle.bookcheck.proofs.Answers.{tells_no}
use Rattle.bookcheck.proofs.Tying.{no_slot, exists_tells}
use Rattle.bookcheck.proofs.ties.exists.Goals as goal

pub returns-then-arity-s : goal.returns-then-arity-s
returns-then-arity-s c = tells_no (no_slot c.requires c.args.o (omega arith))

pub returns : goal.returns
returns c =
    exists_tells c.requires c.args.o c.slot-s.ensures c.kind_in.ensures c.setting.ensures (omega (arith, kids_long c.requires)) c.settings.ensures
