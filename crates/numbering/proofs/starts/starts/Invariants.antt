use Rattle.std.proofs.Common.{suc, ◌^◌}
use Rattle.chains.specs.Limits.{max_kids}
use Rattle.book.specs.Format.{prods}
use Rattle.ranks.specs.Entries.{byte_values}
use Rattle.numbering.proofs.Products.{Summing}
use Rattle.numbering.proofs.starts.starts.Given as goal

abbrev pub invariant-loop-p : goal.invariant-loop-p
invariant-loop-p g l = Summing (goal.F-post g l.entries) (prods l.call.book.now) (byte_values ^ suc max_kids) l.starts l.next l.p
