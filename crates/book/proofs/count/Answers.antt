-- `book::count` meets its contract. Assumes nothing.
use Rattle.std.proofs.lemmas.Result.{err_from_is_err_and}
use Rattle.rules.specs.Book.{count_answer, count_cause}
use Rattle.book.proofs.count.Goals as goal

pub returns-in_err-of : goal.returns-in_err-of
unfolding count_answer count_cause
returns-in_err-of c =
    let p = err_from_is_err_and c.from_residual.result c.from_residual.ensures.1 in
    rw (p.1, p.2, c.in_err-of.ensures.err, c.in_err-of.ensures.no_book)

pub returns : goal.returns
unfolding count_answer count_cause
returns c = rw (c.in_ok-of.ensures.book, c.count.ensures.count, c.in_ok-of.ensures.ok)
