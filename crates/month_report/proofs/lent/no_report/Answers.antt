-- `month_report::lent::no_report` meets its contract. Assumes nothing.
use mathlib.Core.Path.{refl}
use Rattle.rules.specs.MonthReport.{refused_report}
use Rattle.month_report.proofs.lent.no_report.Goals as goal

pub returns : goal.returns
unfolding refused_report
returns c = refl
