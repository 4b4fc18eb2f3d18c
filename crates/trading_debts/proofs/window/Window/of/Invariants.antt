-- `trading_debts::window::Window::of` meets its contract. The loop's invariant: the table is that of the entries passed. Assumes nothing.
use Rattle.rules.specs.Words.{count_of}
use Rattle.cells.specs.Cells.{added, blank}
use Rattle.cells.proofs.ScanLaws.{Scanned}
use Rattle.trading_debts.specs.Window.{window_cells}
use Rattle.trading_debts.proofs.window.Window.of.Given as goal

abbrev pub invariant-loop-i : goal.invariant-loop-i
invariant-loop-i l = Scanned (added (window_cells l.party l.day)) (blank 120) l.book (count_of l.book) l.i l.cells
