use mathlib.Core.Path.{refl}
use Rattle.cells.specs.Cells.{filled}
use Rattle.cells.proofs.ScanLaws.{book_scan, scan-below}
use Rattle.detection.specs.Tables.{table_cells, table_of}
use Rattle.detection.proofs.TableLaws.{day-limited}
use Rattle.detection.proofs.sums.Table.fill.Goals as goal

pub loop-i-init : goal.loop-i-init
loop-i-init c = search book_scan

pub add_entry-requires-clause-at_most : goal.add_entry-requires-clause-at_most
add_entry-requires-clause-at_most c =
    scan-below c.args.book.now c.count-i-end.ensures.book table_cells (day-limited c.args.day) refl c.loop-i.invariant

pub loop-i-preserved : goal.loop-i-preserved
loop-i-preserved c = search book_scan

pub returns-clause-table : goal.returns-clause-table
unfolding table_of filled
returns-clause-table c = search book_scan
