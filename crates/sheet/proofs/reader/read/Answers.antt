use Rattle.std.proofs.Common.{arith, rules}
use Rattle.bookcheck.proofs.Accepted.{told_start}
use Rattle.sheet.proofs.Accepted.{book_accepted}
use Rattle.sheet.proofs.Answers.{refused_length, first_standing, walk_finished, walk_refused}
use Rattle.sheet.proofs.reader.read.Goals as goal

pub returns-then-is_empty : goal.returns-then-is_empty
returns-then-is_empty c = let x = c.then-is_empty.either in refused_length _ _ c.requires c.at.ensures (search rules)

pub overflow_cast-root : goal.overflow_cast-root
overflow_cast-root c =
    let h = book_accepted c.args.book.now c.requires in
    record { fits = omega (arith, told_start h, h.lawful.start_in, h.few_kinds) }

pub subtree-requires : goal.subtree-requires
subtree-requires c = first_standing _ _

pub returns-in_err-counts : goal.returns-in_err-counts
returns-in_err-counts c =
    let due = walk_refused c.requires (grind arith) (grind arith) c.start-root.ensures c.in_err-counts.ensures in
    search (rules, due)

pub finish-requires : goal.finish-requires
finish-requires c = walk_finished c.requires (grind arith) (grind arith) c.start-root.ensures c.in_ok-counts.ensures
