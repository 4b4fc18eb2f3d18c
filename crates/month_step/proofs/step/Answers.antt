use Rattle.std.proofs.lemmas.Result.{err_from_is_err_and}
use Rattle.numbers.proofs.CauseLaws.{done-else}
use Rattle.rules.specs.Month.{month_answer}
use Rattle.rules.proofs.RefusalLaws.{number-not_zero}
use Rattle.month_step.proofs.step.Goals as goal

pub returns-in_err-check : goal.returns-in_err-check
unfolding month_answer
returns-in_err-check g c =
    let p = err_from_is_err_and c.from_residual.result c.from_residual.ensures.1 in
    rw (p.1, p.2, ← c.in_err-check.ensures, done-else _ _ _ (number-not_zero _))

pub returns : goal.returns
unfolding month_answer
returns g c = rw (← c.in_ok-check.ensures, ← c.figures.ensures)
