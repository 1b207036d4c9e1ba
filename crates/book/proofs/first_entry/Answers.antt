use native.Mathlib.Omega.{arith}
use Rattle.book.proofs.Places.{first_told}
use Rattle.book.proofs.first_entry.Goals as goal

pub returns : goal.returns
returns c = omega (arith, first_told c.args.book.now)
