-- `position::day_ahead` meets its contract. Assumes nothing.
use mathlib.Core.Path.{◌∙◌}
use mir.Syntax.{w64}
use mir.ValLaws.{to_z-of_z}
use Rattle.std.proofs.lemmas.Result.{err_from_is_err_and}
use Rattle.rules.specs.Balance.{day_ahead}
use Rattle.position.proofs.AnswerLaws.{balance-refused, balance-done}
use Rattle.position.proofs.day_ahead.Goals as goal

pub returns-in_err-figures : goal.returns-in_err-figures
returns-in_err-figures c =
    let a = c.args in
    let p = err_from_is_err_and c.from_residual.result c.from_residual.ensures.1 in
    rw (p.1, p.2) (balance-refused a.book.now a.party a.day day_ahead _ c.in_err-figures.ensures.answer)

pub returns : goal.returns
returns c =
    let a = c.args in
    let f = c.in_ok-figures.ensures in
    balance-done a.book.now a.party a.day day_ahead f.answer f.day f.coefficient f.tolerance
    (to_z-of_z w64 c.day_ahead.result (record { sfits = c.day_ahead.type_inv }) ∙ c.day_ahead.ensures)
