-- `detection::sums::Table::fill` meets its contract. The loop's invariant: the table is that of the entries passed. Assumes nothing.
use Rattle.rules.specs.Words.{count_of}
use Rattle.cells.specs.Cells.{added, blank}
use Rattle.cells.proofs.ScanLaws.{Scanned}
use Rattle.detection.specs.Tables.{day_cells, table_cells}
use Rattle.detection.proofs.sums.Table.fill.Given as goal

abbrev pub invariant-loop-i : goal.invariant-loop-i
invariant-loop-i l = Scanned (added (day_cells l.day)) (blank table_cells) l.book (count_of l.book) l.i l.self
