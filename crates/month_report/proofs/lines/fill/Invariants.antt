-- `month_report::lines::fill` meets its contract. The loop's invariant: the lines are those of the entries passed. Assumes nothing.
use Rattle.rules.specs.Words.{count_of}
use Rattle.cells.specs.Cells.{added, blank}
use Rattle.cells.proofs.ScanLaws.{Scanned}
use Rattle.month_report.specs.Lines.{report_cells}
use Rattle.month_report.proofs.lines.fill.Given as goal

abbrev pub invariant-loop-i : goal.invariant-loop-i
invariant-loop-i l =
    Scanned (added (report_cells l.month.first l.month.count)) (blank 672) l.book (count_of l.book) l.i l.lines
