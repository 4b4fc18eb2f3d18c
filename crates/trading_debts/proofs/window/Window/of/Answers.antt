-- `trading_debts::window::Window::of` meets its contract. Assumes nothing.
use mathlib.Core.Path.{refl}
use native.Mathlib.Omega.{arith}
use Rattle.rules.specs.Book.{entry_at}
use Rattle.rules.proofs.WordLaws.{legal-bounds}
use Rattle.entry_words.specs.Words.{entry_in}
use Rattle.cells.specs.Cells.{blank, filled}
use Rattle.cells.proofs.ScanLaws.{scan-start, scan-more, scan-done, scan-below}
use Rattle.trading_debts.specs.Window.{window_of}
use Rattle.trading_debts.proofs.WindowLaws.{window-limited}
use Rattle.trading_debts.proofs.window.Window.of.Goals as goal

pub loop-i-init : goal.loop-i-init
unfolding blank
loop-i-init c = scan-start refl

pub add_entry-requires-clause-amount : goal.add_entry-requires-clause-amount
add_entry-requires-clause-amount c = (legal-bounds (entry_in c.entry_words.result) c.entry_words.ensures.legal).amount

pub add_entry-requires-clause-cells : goal.add_entry-requires-clause-cells
add_entry-requires-clause-cells c =
    scan-below c.args.book.now c.count-i-end.ensures.book 120 (window-limited c.args.party c.args.day) refl c.loop-i.invariant

pub loop-i-preserved : goal.loop-i-preserved
unfolding entry_at
loop-i-preserved c =
    scan-more (omega arith) c.loop-i.invariant (rw c.entry_words.ensures.entry at c.add_entry.ensures)

pub invariant_of-result : goal.invariant_of-result
invariant_of-result c =
    record { within = scan-below c.args.book.now c.count-i-end.ensures.book 120 (window-limited c.args.party c.args.day) refl c.loop-i.invariant }

pub returns-clause-cells : goal.returns-clause-cells
unfolding window_of filled
returns-clause-cells c = scan-done refl (omega arith) c.loop-i.invariant
