-- `report::report_into` meets its contract. Assumes nothing.
use Rattle.std.proofs.Common.{refl, rules}
use Rattle.rules.proofs.RefusalLaws.{number-not_zero}
use Rattle.text.proofs.TextLaws.{puts_then, puts_all}
use Rattle.report.proofs.ReportLaws.{report-refused, report-done, report-book}
use Rattle.report.proofs.report_into.Goals as goal

pub returns-in-Err : goal.returns-in-Err
returns-in-Err c =
    rw (← c.open_default.ensures.words, report-refused _ _ c.in-Err.ensures.answer (number-not_zero c.in-Err.refusal)) (rw c.into.ensures at c.refused.ensures)

pub known-book-requires : goal.known-book-requires
known-book-requires c = rw c.in_default.ensures.words (report-book _ _ c.in_default.ensures.answer refl)

pub returns : goal.returns
returns c =
    let whole = puts_all c.new-text.ensures (puts_then c.put_bytes.ensures (rw c.known-book.ensures at c.put_parties.ensures)) in
    rw (← c.open_default.ensures.words, report-done _ _ c.in_default.ensures.answer refl, ← c.in_default.ensures.words) (search (rules, whole))
