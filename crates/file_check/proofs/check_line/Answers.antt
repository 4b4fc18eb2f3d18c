-- `file_check::check_line` meets its contract. Assumes nothing.
use mathlib.Core.Path.{sym}
use mathlib.Core.Bool.{and-false}
use Rattle.std.proofs.lemmas.Result.{err_from_is_err_and}
use Rattle.rules.specs.Entry.{key_in, is_bilateral}
use Rattle.rules.proofs.RefusalLaws.{number-not_zero}
use Rattle.numbers.proofs.CauseLaws.{else-stop}
use Rattle.entry_checks.proofs.Ladder.{passed, failed, told}
use Rattle.file_check.specs.Check.{cause_by}
use Rattle.file_check.proofs.check_line.Goals as goal

pub returns-in_err-check : goal.returns-in_err-check
unfolding cause_by
returns-in_err-check c =
    let p = err_from_is_err_and c.from_residual.result c.from_residual.ensures.1 in
    rw (p.1, p.2, ← c.in_err-check.ensures) (sym (else-stop _ _ (number-not_zero _)))

pub returns-then-not-flag_of : goal.returns-then-not-flag_of
unfolding cause_by
returns-then-not-flag_of c =
    rw (← c.in_ok-check.ensures, failed c.flag_of.ensures c.if-not-flag_of.true, and-false (is_bilateral (key_in c.args.key)))

pub returns-then-is_bilateral : goal.returns-then-is_bilateral
unfolding cause_by
returns-then-is_bilateral c =
    rw (← c.in_ok-check.ensures, passed c.flag_of.ensures c.if-not-flag_of.false, told c.is_bilateral.ensures c.if-is_bilateral.true)

pub returns : goal.returns
unfolding cause_by
returns c = rw (← c.in_ok-check.ensures, told c.is_bilateral.ensures c.if-is_bilateral.false)
