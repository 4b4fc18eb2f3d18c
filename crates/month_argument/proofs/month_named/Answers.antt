-- `month_argument::month_named` meets its contract. Assumes nothing.
use Rattle.std.proofs.Common.{rules}
use Rattle.month_argument.proofs.LongerLaws.{not-one, empty-one, one-named}
use Rattle.month_argument.proofs.month_named.Goals as goal

pub returns-then-arguments-ne1 : goal.returns-then-arguments-ne1
returns-then-arguments-ne1 c = not-one _ _ c.if-arguments-ne1.true

pub returns-then-is_empty : goal.returns-then-is_empty
returns-then-is_empty c = rw c.if-arguments-ne1.false (empty-one _ (search rules))

pub returns : goal.returns
returns c = rw (c.if-arguments-ne1.false, c.month_of.ensures) (one-named _ (search rules))
