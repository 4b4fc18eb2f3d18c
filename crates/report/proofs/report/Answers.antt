-- `report::report` meets its contract. Assumes nothing.
use native.Mathlib.Nat.{le_trans}
use Rattle.text.proofs.TextLaws.{wrote-whole}
use Rattle.report.specs.Report.{report_on}
use Rattle.report.proofs.LengthLaws.{report-fits}
use Rattle.report.proofs.report.Goals as goal

pub returns-clause-wrote : goal.returns-clause-wrote
unfolding report_on
returns-clause-wrote c = c.report_into.ensures

pub returns-clause-whole : goal.returns-clause-whole
unfolding report_on
returns-clause-whole c = λ h. wrote-whole c.report_into.ensures (le_trans (report-fits _) h)
