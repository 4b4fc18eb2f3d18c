-- `dayfile::lines_for` meets its contract. Assumes nothing.
use Rattle.std.proofs.lemmas.Result.{err_from_is_err_and}
use Rattle.entry_checks.proofs.Ladder.{failed}
use Rattle.dayfile.proofs.FileLaws.{not-a-book, not-a-file}
use Rattle.dayfile.proofs.lines_for.Goals as goal

pub returns-in_err-book : goal.returns-in_err-book
returns-in_err-book c =
    let p = err_from_is_err_and c.from_residual.result c.from_residual.ensures.1 in
    rw (p.1, p.2, c.in_err-book.ensures.err) (not-a-book _ _ c.in_err-book.ensures.no_book)

pub returns-then-not-is_file : goal.returns-then-not-is_file
returns-then-not-is_file c = not-a-file _ _ c.in_ok-book.ensures.book (failed c.is_file.ensures c.if-not-is_file.true)
