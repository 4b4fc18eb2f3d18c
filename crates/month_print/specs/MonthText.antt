-- What the program `month` prints for a file and a month (02, T-01).
use Rattle.std.specs.Prelude.{Bool, cond, List, ℕ, replicate}
use Rattle.numbers.specs.Causes.{if_done}
use Rattle.rules.specs.Words.{book_words}
use Rattle.rules.specs.Refusals.{bad_file}
use Rattle.rules.specs.Book.{open_default_words}
use Rattle.rules.specs.Calls.{file, cause_of, words_after}
use Rattle.rules.specs.MonthReport.{month_report}
use Rattle.text.specs.Text.{refusal}
use Rattle.month_text.specs.ReportText.{report_text}

-- a file read into an opened book, and the report on it; the file's refusals come first
unfoldable pub month_into : List ℕ → List ℕ → ℕ → List ℕ
month_into ws bs m =
    if_done (cause_of ws (file bs)) (report_text (month_report (words_after ws (file bs)) m)) (refusal (cause_of ws (file bs)))

-- read into a book for 3,072 entries, opened without figures
unfoldable pub month_on : List ℕ → ℕ → List ℕ
month_on bs m = month_into (open_default_words (replicate book_words 0)) bs m

-- what is printed for the bytes read, or a refusal by 2 where a read failed
unfoldable pub printed : Bool → List ℕ → ℕ → List ℕ
printed failed bs m = cond failed (refusal bad_file) (month_on bs m)
