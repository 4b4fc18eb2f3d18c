-- The text for a file read into a book: by the answer to the file, and how long it is. Assumes nothing.
use mathlib.Core.Path.{◌≡◌}
use mathlib.Core.List.{List}
use Prim.Native.Nat.{ℕ, zero, suc, ◌≤◌, zero-le}
use lib.ListN.{length}
use Rattle.numbers.specs.Causes.{if_done}
use Rattle.calendar.proofs.MonthLaws.{month-length}
use Rattle.rules.specs.Words.{entries}
use Rattle.rules.specs.Calls.{file, cause_of, words_after, file_answer}
use Rattle.rules.specs.MonthReport.{month_report_cause, report_of, refused_report, month_report}
use Rattle.rules.specs.declared.FileRead.{FileRead}
use Rattle.file_check.proofs.AnswerLaws.{told-refused, told-done}
use Rattle.text.specs.Text.{refusal}
use Rattle.month_text.specs.ReportText.{report_text, most_text}
use Rattle.month_text.proofs.LineLaws.{refusal-fits, report-most}
use Rattle.month_print.specs.MonthText.{month_into, month_on}

-- a report has the days of its month, or none
pub few-days : (ws : List ℕ) (m : ℕ) → (month_report ws m).days ≤ 31
unfolding month_report report_of refused_report
few-days ws m = go (month_report_cause ws m)
  where
    go : (c : ℕ) → (if_done c (report_of (entries ws) m) (refused_report c)).days ≤ 31
    go zero = (month-length m).1
    go (suc c) = zero-le

module _ (ws bs : List ℕ) (m : ℕ) {r : FileRead} (e : r ≡ file_answer ws bs) where
  pub file-refused : (r.answer ≡ 0 → ⊥) → month_into ws bs m ≡ refusal r.answer
  unfolding month_into
  file-refused n = told-refused ws bs e _ refusal n

  pub file-read : r.answer ≡ 0 → month_into ws bs m ≡ report_text (month_report (words_after ws (file bs)) m)
  unfolding month_into
  file-read z = told-done ws bs e _ refusal z

into-most : (ws bs : List ℕ) (m : ℕ) → length (month_into ws bs m) ≤ most_text
unfolding month_into
into-most ws bs m = go (cause_of ws (file bs))
  where
    go : (c : ℕ) → length (if_done c (report_text (month_report (words_after ws (file bs)) m)) (refusal c)) ≤ most_text
    go zero = report-most (month_report (words_after ws (file bs)) m) (few-days (words_after ws (file bs)) m)
    go (suc c) = refusal-fits (suc c)

pub month-fits : (bs : List ℕ) (m : ℕ) → length (month_on bs m) ≤ most_text
unfolding month_on
month-fits bs m = into-most _ bs m
