-- `byte_reports::reports::report` meets its contract. Assumes nothing.
use borrow.Author.Rules.{rules}
use Rattle.std.proofs.iter.Serving.{serving}
use Rattle.month_report.proofs.ReportLaws.{none-lent}
use Rattle.byte_reports.proofs.ReportLaws.{on-report}
use Rattle.byte_reports.proofs.reports.report.Goals as goal

pub ask_with-requires : goal.ask_with-requires
ask_with-requires c = let e = none-lent c.no_report-report.ensures in grind serving

pub returns : goal.returns
returns c = let e = on-report c.args.book.now c.args.month in search rules
