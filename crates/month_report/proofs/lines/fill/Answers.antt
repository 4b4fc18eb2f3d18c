use mathlib.Core.Path.{refl, sym, ◌∙◌}
use Rattle.words.proofs.BookCode.{book-entry, ok-told}
use Rattle.cells.specs.Cells.{filled}
use Rattle.cells.proofs.ScanLaws.{scan-start, scan-words, scan-all, scan-below}
use Rattle.month_report.specs.Lines.{lines_of}
use Rattle.month_report.proofs.LineLaws.{report-limited}
use Rattle.month_report.proofs.lines.fill.Goals as goal

pub loop-i-init : goal.loop-i-init
loop-i-init c = scan-start c.requires

pub add_entry-requires-clause-e_value : goal.add_entry-requires-clause-e_value
add_entry-requires-clause-e_value c =
    let b = c.count-i-end.ensures in
    sym (ok-told c.args.book.now c.loop-i.i refl c.entry_words.ensures.words refl) ∙ (book-entry _ b.book _ (rw b.count at c.loop-i-test.true)).ok

pub add_entry-requires-clause-at_most : goal.add_entry-requires-clause-at_most
add_entry-requires-clause-at_most c =
    scan-below c.args.book.now c.count-i-end.ensures.book 672 (report-limited c.args.month.first c.args.month.count) refl c.loop-i.invariant

pub loop-i-preserved : goal.loop-i-preserved
loop-i-preserved c = scan-words c.count-i-end.ensures.count c.loop-i-test.true c.entry_words.ensures.entry c.loop-i.invariant c.add_entry.ensures

pub returns : goal.returns
unfolding lines_of filled
returns c = scan-all c.count-i-end.ensures.count c.loop-i-test.false c.loop-i.invariant
