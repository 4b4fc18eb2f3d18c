-- `book::check_withdrawal` meets its contract. Assumes nothing.
use mathlib.Core.Path.{ap, ◌∙◌}
use borrow.Author.Tests.{lt-ltb, le-ltb}
use Rattle.std.proofs.lemmas.Result.{err_from_is_err_and}
use Rattle.rules.specs.Entry.{record_in}
use Rattle.rules.specs.Words.{entries, count_of}
use Rattle.rules.proofs.CallLaws.{withdraw-cause}
use Rattle.words.specs.Parts.{kept}
use Rattle.book.proofs.check_withdrawal.Goals as goal

pub returns-in_err-book : goal.returns-in_err-book
returns-in_err-book c =
    let p = err_from_is_err_and c.from_residual.result c.from_residual.ensures.1 in
    rw (p.1, p.2, c.in_err-book.ensures.err, withdraw-cause, c.in_err-book.ensures.no_book)

pub returns-then-count-number : goal.returns-then-count-number
returns-then-count-number c =
    let a = c.args in
    rw (withdraw-cause, c.in_ok-book.ensures.book, le-ltb a.number (count_of a.book.now) (rw (c.count.ensures.count, c.in_ok-book.ensures.ok) at c.if-count-number.true))

pub returns : goal.returns
unfolding kept
returns c =
    let a = c.args in
    rw (withdraw-cause, c.in_ok-book.ensures.book, lt-ltb a.number (count_of a.book.now) (rw (c.count.ensures.count, c.in_ok-book.ensures.ok) at c.if-count-number.false)) (rw c.in_ok-book.ensures.ok at (c.kept.ensures ∙ ap (λ e. kept (record_in e) (entries c.in_ok-book.book)) c.entry.ensures.entry))
