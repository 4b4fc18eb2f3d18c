-- `month_text::put_report` meets its contract. Assumes nothing.
use Rattle.std.proofs.Common.{rules}
use Rattle.numbers.proofs.CauseLaws.{done-else}
use Rattle.text.proofs.TextLaws.{puts_then, puts_all}
use Rattle.month_text.specs.ReportText.{report_text}
use Rattle.month_text.proofs.put_report.Goals as goal

pub returns-then-report-ne0 : goal.returns-then-report-ne0
unfolding report_text
returns-then-report-ne0 c =
    rw (done-else c.args.report.answer _ _ c.if-report-ne0.true) c.refused.ensures

pub returns : goal.returns
unfolding report_text
returns c =
    let whole = puts_all c.new-text.ensures (puts_then c.put_days.ensures c.put_line.ensures) in
    rw c.if-report-ne0.false (search (rules, whole))
