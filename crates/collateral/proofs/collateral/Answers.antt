-- `collateral::collateral` meets its contract. Assumes nothing.
use Rattle.std.proofs.lemmas.Result.{err_from_is_err_and}
use Rattle.collateral.proofs.CaseLaws.{not-asked, out_of_range, answer-done}
use Rattle.collateral.proofs.collateral.Goals as goal

pub returns-in_err-checked : goal.returns-in_err-checked
returns-in_err-checked c =
    let a = c.args in
    let p = err_from_is_err_and c.from_residual.result c.from_residual.ensures.1 in
    rw (p.1, p.2) (not-asked a.book.now a.case _ c.in_err-checked.ensures.answer)

pub returns-in_err-of : goal.returns-in_err-of
returns-in_err-of c =
    let a = c.args in
    let p = err_from_is_err_and c.from_residual-in_err-of.result c.from_residual-in_err-of.ensures.1 in
    rw (p.1, p.2) (out_of_range a.book.now a.case _ c.in_ok-checked.ensures.answer c.in_err-of.ensures.answer)

pub returns : goal.returns
returns c =
    let a = c.args in
    answer-done a.book.now a.case c.in_ok-checked.ensures.answer c.in_ok-of.ensures.answer (rw (c.in_ok-of.ensures.case, c.in_ok-checked.ensures.ok) at c.items.ensures)
