use mathlib.Core.Path.{◌∙◌, sym}
use native.Mathlib.Omega.{arith}
use Rattle.bookcheck.proofs.Rows.{due_1, due_2, due_3, due_4}
use Rattle.bookcheck.proofs.Laying.{told_is, few_kinds, few_prods, start_in}
use Rattle.bookcheck.proofs.check_book.Goals as goal

pub returns-then-book-lt-TRAILER : goal.returns-then-book-lt-TRAILER
returns-then-book-lt-TRAILER c = rw c.at.ensures (due_1 c.args.book.now c.if-book-lt-TRAILER.true)

pub returns-then-field-ne-EDITION : goal.returns-then-field-ne-EDITION
returns-then-field-ne-EDITION c = let b = c.args.book.now in
    let e = c.field.ensures ∙ told_is b 0 c.if-book-lt-TRAILER.false in
    rw c.at-then-field-ne-EDITION.ensures (due_2 b c.if-book-lt-TRAILER.false (λ h. c.if-field-ne-EDITION.true (e ∙ h)))

pub returns-then-out_of_range : goal.returns-then-out_of_range
returns-then-out_of_range c = let b = c.args.book.now in
    let e = sym (c.field.ensures ∙ told_is b 0 c.if-book-lt-TRAILER.false) ∙ c.if-field-ne-EDITION.false in
    rw c.at-then-out_of_range.ensures (due_3 b c.if-book-lt-TRAILER.false e (c.out_of_range.ensures.holds c.if-out_of_range.true))

pub returns-then-not-is_laid : goal.returns-then-not-is_laid
returns-then-not-is_laid c = let b = c.args.book.now in
    let e = sym (c.field.ensures ∙ told_is b 0 c.if-book-lt-TRAILER.false) ∙ c.if-field-ne-EDITION.false in
    let r = c.out_of_range.ensures.fails c.if-out_of_range.false in
    rw c.at-then-not-is_laid.ensures (due_4 b c.if-book-lt-TRAILER.false e r (c.is_laid.ensures.fails c.if-not-is_laid.true))

pub overflow_cast-kinds : goal.overflow_cast-kinds
overflow_cast-kinds c =
    let b = c.args.book.now in
    let few = few_kinds b (c.out_of_range.ensures.fails c.if-out_of_range.false) in
    omega (arith, c.kinds.ensures, told_is b 1 c.if-book-lt-TRAILER.false, few)

pub overflow_cast-productions : goal.overflow_cast-productions
overflow_cast-productions c =
    let b = c.args.book.now in
    let few = few_prods b (c.out_of_range.ensures.fails c.if-out_of_range.false) in
    omega (arith, c.productions.ensures, told_is b 2 c.if-book-lt-TRAILER.false, few)

pub overflow_cast-start : goal.overflow_cast-start
overflow_cast-start c = let b = c.args.book.now in
    let r = c.out_of_range.ensures.fails c.if-out_of_range.false in
    omega (arith, c.start.ensures, told_is b 3 c.if-book-lt-TRAILER.false, few_kinds b r, start_in b r)

pub check_entries-requires : goal.check_entries-requires
check_entries-requires c = let b = c.args.book.now in
    let h = c.if-book-lt-TRAILER.false in
    record {
      known = sym (c.field.ensures ∙ told_is b 0 h) ∙ c.if-field-ne-EDITION.false;
      in_range = c.out_of_range.ensures.fails c.if-out_of_range.false;
      told = record {
        laid = c.is_laid.ensures.holds c.if-not-is_laid.false;
        kinds_told = c.kinds.ensures ∙ told_is b 1 h;
        start_told = c.start.ensures ∙ told_is b 3 h;
      };
      prods_told = c.productions.ensures ∙ told_is b 2 h;
    }
