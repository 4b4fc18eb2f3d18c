-- `report::input::report_from` meets its contract. Assumes nothing.
use native.Mathlib.Nat.{le_trans}
use native.Mathlib.Omega.{arith}
use Rattle.report.specs.Report.{printed}
use Rattle.text.proofs.TextLaws.{wrote-whole}
use Rattle.report.proofs.LengthLaws.{refusal-fits}
use Rattle.report.proofs.input.report_from.Goals as goal

pub returns-in-Ok-clause-whole : goal.returns-in-Ok-clause-whole
unfolding printed
returns-in-Ok-clause-whole g c = rw c.in-Ok.is (c.report-count.ensures.whole (omega arith))

pub returns-in-Err-clause-whole : goal.returns-in-Err-clause-whole
unfolding printed
returns-in-Err-clause-whole g c =
    rw (c.in-Err.is, ← c.into.ensures) (wrote-whole c.refused-count.ensures (le_trans (refusal-fits _) (omega arith)))
