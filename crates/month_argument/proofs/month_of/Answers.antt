use Rattle.std.proofs.Common.{◌∙◌, sym}
use lib.ListN.{get_or}
use Rattle.month_argument.proofs.LongerLaws.{longer-below, next-digit, no-digit, digits-end}
use Rattle.month_argument.proofs.month_of.Goals as goal

pub returns-in_err-number : goal.returns-in_err-number
returns-in_err-number c =
    let none = sym c.longer.ensures ∙ c.in_err-number.was in
    c.from_residual.ensures ∙ sym (no-digit _ _ _ c.loop-digit-test.true none) ∙ c.loop-digit.invariant.1

pub loop-digit-preserved : goal.loop-digit-preserved
loop-digit-preserved c =
    let some = sym c.longer.ensures ∙ c.in_ok-number.was in
    (longer-below c.loop-digit.number (get_or c.args.digits.now c.loop-digit.digit-index 0) some, sym (next-digit _ _ _ c.loop-digit-test.true some) ∙ c.loop-digit.invariant.1)

pub returns : goal.returns
returns c = sym (digits-end _ _ _ c.loop-digit-test.false c.loop-digit.invariant.0) ∙ c.loop-digit.invariant.1
