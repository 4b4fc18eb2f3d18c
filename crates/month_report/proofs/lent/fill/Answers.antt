-- `month_report::lent::fill` meets its contract. Assumes nothing.
use Rattle.std.proofs.lemmas.Result.{err_from_is_err_and}
use Rattle.month_report.proofs.ReportLaws.{no-book, no-month, none-lent, done}
use Rattle.month_report.proofs.lent.fill.Goals as goal

pub returns-in_err-book : goal.returns-in_err-book
returns-in_err-book c =
    let p = err_from_is_err_and c.from_residual.result c.from_residual.ensures.1 in
    rw (p.1, p.2, c.in_err-book.ensures.err) (no-book _ _ c.requires c.in_err-book.ensures.no_book)

pub returns-in_err-days : goal.returns-in_err-days
returns-in_err-days c =
    let p = err_from_is_err_and c.from_residual-in_err-days.result c.from_residual-in_err-days.ensures.1 in
    rw (p.1, p.2, c.in_err-days.ensures.err) (no-month _ _ c.requires c.in_ok-book.ensures.book c.in_err-days.ensures.past)

pub fill-requires : goal.fill-requires
fill-requires c = none-lent c.requires

pub returns : goal.returns
returns c =
    let d = c.in_ok-days.ensures in
    done _ _ c.requires c.in_ok-book.ensures.book d.within d.first d.count (rw c.in_ok-book.ensures.ok at c.fill.ensures)
