-- `month_report::month_report` meets its contract. Assumes nothing.
use Rattle.month_report.proofs.ReportLaws.{none-lent}
use Rattle.month_report.proofs.month_report.Goals as goal

pub report_into-requires : goal.report_into-requires
report_into-requires c = none-lent c.no_report-report.ensures
