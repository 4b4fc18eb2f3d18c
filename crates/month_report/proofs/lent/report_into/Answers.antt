-- `month_report::lent::report_into` meets its contract. Assumes nothing.
use Rattle.month_report.proofs.ReportLaws.{refusing, nothing-in}
use Rattle.month_report.proofs.lent.report_into.Goals as goal

pub fill-requires : goal.fill-requires
fill-requires c = nothing-in c.requires

pub returns-in-Err : goal.returns-in-Err
returns-in-Err c = refusing c.in-Err.ensures c.from-report.ensures
