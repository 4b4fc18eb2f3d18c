-- `control::control` meets its contract. Assumes nothing.
use Rattle.std.proofs.lemmas.Result.{err_from_is_err_and}
use Rattle.control.proofs.RunLaws.{refused}
use Rattle.control.proofs.control.Goals as goal

pub returns-in_err-check-clause-answer : goal.returns-in_err-check-clause-answer
returns-in_err-check-clause-answer c =
    let p = err_from_is_err_and c.from_residual.result c.from_residual.ensures.1 in
    rw (p.1, p.2) (refused _ _ _ c.in_err-check.ensures).0

pub returns-in_err-check-clause-words : goal.returns-in_err-check-clause-words
returns-in_err-check-clause-words c = (refused _ _ _ c.in_err-check.ensures).1
