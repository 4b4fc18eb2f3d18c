-- `month_print::month_on` meets its contract. Assumes nothing.
use native.Mathlib.Nat.{le_trans}
use Rattle.text.proofs.TextLaws.{wrote-whole}
use Rattle.month_print.specs.MonthText.{month_on}
use Rattle.month_print.proofs.ReadLaws.{month-fits}
use Rattle.month_print.proofs.month_on.Goals as goal

pub returns-clause-wrote : goal.returns-clause-wrote
unfolding month_on
returns-clause-wrote c = c.month_into.ensures

pub returns-clause-whole : goal.returns-clause-whole
unfolding month_on
returns-clause-whole c = λ h. wrote-whole c.month_into.ensures (le_trans (month-fits _ _) h)
