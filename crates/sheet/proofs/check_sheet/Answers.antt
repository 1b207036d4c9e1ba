use Rattle.std.proofs.Common.{rules}
use Rattle.sheet.proofs.Refusals.{book_refused}
use Rattle.sheet.proofs.check_sheet.Goals as goal

pub returns-in_err-check_book : goal.returns-in_err-check_book
returns-in_err-check_book c =
    let due = book_refused c.args.sheet.now c.in_err-check_book.ensures in
    search (rules, due)
