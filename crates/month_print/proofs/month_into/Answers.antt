-- `month_print::month_into` meets its contract. Assumes nothing.
use Rattle.std.proofs.Common.{refl}
use Rattle.rules.proofs.RefusalLaws.{number-not_zero}
use Rattle.month_print.proofs.ReadLaws.{few-days, file-refused, file-read}
use Rattle.month_print.proofs.month_into.Goals as goal

pub returns-in-Err : goal.returns-in-Err
returns-in-Err c =
    rw (← c.open_default.ensures.words, file-refused _ _ _ c.in-Err.ensures.answer (number-not_zero c.in-Err.refusal)) (rw c.into.ensures at c.refused.ensures)

pub put_report-requires : goal.put_report-requires
put_report-requires c = rw c.month_report.ensures (few-days _ _)

pub returns : goal.returns
returns c =
    rw (← c.open_default.ensures.words, file-read _ _ _ c.in_default.ensures.answer refl, ← c.in_default.ensures.words, ← c.month_report.ensures) c.put_report.ensures
