-- Worked figures of 02, T-01: lines and a whole report, byte by byte. Assumes nothing.
use mathlib.Core.Path.{◌≡◌, refl}
use mathlib.Core.List.{List, [], ◌∷◌, ◌++◌}
use Prim.Native.Nat.{ℕ, zero, suc}
use lib.ListN.{replicate}
use Rattle.rules.specs.MonthReport.{refused_report}
use Rattle.text.specs.Text.{digits, decimal, each_from, refusal}
use Rattle.month_text.specs.ReportText.{sums_text, line_text, report_text}

-- 295 0 1200
pub line_of-two-sums : line_text 295 (0 ∷ 1200 ∷ []) ≡ 50 ∷ 57 ∷ 53 ∷ 32 ∷ 48 ∷ 32 ∷ 49 ∷ 50 ∷ 48 ∷ 48 ∷ 10 ∷ []
unfolding line_text sums_text decimal digits
line_of-two-sums = refl

-- refused 12
abbrev pub refused_by12 : List ℕ
refused_by12 = 114 ∷ 101 ∷ 102 ∷ 117 ∷ 115 ∷ 101 ∷ 100 ∷ 32 ∷ 49 ∷ 50 ∷ 10 ∷ []

pub report-refused-by-12 : report_text (refused_report 12) ≡ refused_by12
unfolding report_text refused_report refusal decimal digits
report-refused-by-12 = refl

-- twenty sums of 0 and one more, as figures and as text
abbrev line : ℕ → List ℕ
line n = replicate 20 0 ++ (n ∷ [])

unfoldable pub zeros : ℕ → List ℕ
zeros zero = []
zeros (suc n) = 32 ∷ 48 ∷ zeros n

-- two days from day 59 on and month 2: the last line has the month's number and the third line's sums
pub text-of-two-days : report_text (record { answer = 0; month = 2; first_day = 59; days = 2; lines = line 7 ++ line 8 ++ line 9 ++ line 6 })
    ≡ (53 ∷ 57 ∷ []) ++ zeros 20 ++ (32 ∷ 55 ∷ 10 ∷ 54 ∷ 48 ∷ []) ++ zeros 20 ++ (32 ∷ 56 ∷ 10 ∷ 50 ∷ []) ++ zeros 20 ++ (32 ∷ 57 ∷ 10 ∷ [])
unfolding report_text each_from line_text sums_text decimal digits zeros
text-of-two-days = refl
