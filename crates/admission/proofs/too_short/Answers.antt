use Rattle.std.proofs.Common.{arith}
use Rattle.bookcheck.proofs.Accepted.{told_kinds}
use Rattle.sheet.proofs.Accepted.{book_accepted}
use Rattle.admission.proofs.too_short.Goals as goal

pub returns-then-lengths-n : goal.returns-then-lengths-n
returns-then-lengths-n c = grind (arith, told_kinds (book_accepted _ c.requires))

pub returns-else-lengths-n : goal.returns-else-lengths-n
returns-else-lengths-n c = grind (arith, told_kinds (book_accepted _ c.requires))
