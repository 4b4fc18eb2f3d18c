-- A month report as text: a line for each day and one of the totals, or a refusal (02, T-01).
use Rattle.std.specs.Prelude.{List, [], ◌∷◌, ◌++◌, ℕ, ◌+◌, ◌*◌, take, drop}
use Rattle.numbers.specs.Causes.{if_done}
use Rattle.rules.specs.MonthReport.{line_sums}
use Rattle.rules.specs.declared.MonthReport.{MonthReport}
use Rattle.text.specs.Text.{decimal, each_from, refusal}

-- a space and a number, for each sum of a line
unfoldable pub sums_text : List ℕ → List ℕ
sums_text [] = []
sums_text (x ∷ xs) = 32 ∷ decimal x ++ sums_text xs

-- a line: the day or the month, its sums, and the line's end
unfoldable pub line_text : ℕ → List ℕ → List ℕ
line_text n sums = decimal n ++ sums_text sums ++ (10 ∷ [])

-- the sums of line i of a report
abbrev pub line_at : List ℕ → ℕ → List ℕ
line_at lines i = take line_sums (drop (line_sums * i) lines)

-- the line of a month's day i, counted from 0
abbrev pub day_text : ℕ → List ℕ → ℕ → List ℕ
day_text first lines i = line_text (first + i) (line_at lines i)

-- a line for each day of the month, and a last one with the month and its totals; of a refusal one line
unfoldable pub report_text : MonthReport → List ℕ
report_text r =
    if_done r.answer
    (each_from (day_text r.first_day r.lines) r.days 0 ++ line_text r.month (line_at r.lines r.days))
    (refusal r.answer)

-- no text is longer: 32 lines, each a number of at most 20 digits, 21 sums of at most 20 with a space before, and the line's end
abbrev pub most_text : ℕ
most_text = 14784
