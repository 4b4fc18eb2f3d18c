-- Worked figures of 02, T-01: the file's refusal before the month's, byte by byte. Assumes nothing.
use mathlib.Core.Path.{◌≡◌, refl}
use mathlib.Core.List.{List, [], ◌∷◌}
use Prim.Native.Nat.{ℕ}
use lib.ListN.{replicate}
use Rattle.rules.specs.Book.{open_default_words}
use Rattle.rules.specs.MonthReport.{month_report_cause, refused_report, month_report}
use Rattle.rules.proofs.Worked.{computed}
use Rattle.text.specs.Text.{digits, decimal, refusal}
use Rattle.month_text.specs.ReportText.{report_text}
use Rattle.month_text.proofs.LineFigures.{refused_by12}
use Rattle.month_print.specs.MonthText.{month_into}

-- refused 2
abbrev refused_by2 : List ℕ
refused_by2 = 114 ∷ 101 ∷ 102 ∷ 117 ∷ 115 ∷ 101 ∷ 100 ∷ 32 ∷ 50 ∷ 10 ∷ []

-- month 1,200: a file of one byte is refused by 2, an empty file leaves 12
pub file-before-month : month_into (open_default_words (replicate 3 0)) (1 ∷ []) 1200 ≡ refused_by2
unfolding month_into refusal decimal digits computed
file-before-month = refl

pub month-after-file : month_into (open_default_words (replicate 3 0)) [] 1200 ≡ refused_by12
unfolding month_into month_report month_report_cause refused_report report_text refusal decimal digits computed
month-after-file = refl
