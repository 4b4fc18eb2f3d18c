-- `position::tally` meets its contract. Assumes nothing.
use Rattle.std.proofs.lemmas.Result.{err_from_is_err_and}
use Rattle.position.proofs.AnswerLaws.{tally-refused, tally-done}
use Rattle.position.proofs.tally.Goals as goal

pub returns-in_err-figures : goal.returns-in_err-figures
returns-in_err-figures c =
    let a = c.args in
    let p = err_from_is_err_and c.from_residual.result c.from_residual.ensures.1 in
    rw (p.1, p.2) (tally-refused a.book.now a.party a.day _ c.in_err-figures.ensures.answer)

pub returns : goal.returns
returns c =
    let a = c.args in
    tally-done a.book.now a.party a.day c.in_ok-figures.ensures.answer c.in_ok-figures.ensures.day
