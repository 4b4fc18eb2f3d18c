-- The lines of a month report as a table: an entry goes to its day's sum and to the month's, both of its type.
-- For this crate's own functions: the law `report-lines` ties it to the sums of 02, T-01.
use Rattle.std.specs.Prelude.{Bool, cond, List, [], ◌∷◌, ℕ, ◌+◌, ◌-◌, ◌*◌, eqb, leb, ltb}
use Rattle.numbers.specs.Tests.{every}
use Rattle.rules.specs.Entry.{Label, Record, is_type, standing, most_money}
use Rattle.rules.specs.Words.{word, status_unit, most_entries}
use Rattle.rules.specs.MonthReport.{line_sums, line_place, report_figures}
use Rattle.cells.specs.Cells.{Cells, filled}

-- standing entries of the days of the month; a mark is of no type that is summed
unfoldable pub in_month : ℕ → ℕ → Label → Bool
in_month first days l =
    every
    (eqb l.status standing
    ∷ is_type l.key.type
    ∷ leb first l.key.day
    ∷ ltb l.key.day (first + days)
    ∷ [])

-- the same by an entry's words of the day and of the type, from the first day's word on; of any type
abbrev pub words_count : ℕ → ℕ → ℕ → ℕ → Bool
words_count start days b w = every (leb start b ∷ ltb b (start + days) ∷ ltb w (word 3 status_unit) ∷ [])

-- the figures that an entry goes to: line i is that of day first + i, the line after the last day that of the totals
abbrev pub day_figure : ℕ → Label → ℕ
day_figure first l = line_sums * (l.key.day - first) + line_place l.key.type

abbrev pub total_figure : ℕ → Label → ℕ
total_figure days l = line_sums * days + line_place l.key.type

unfoldable pub report_cells : ℕ → ℕ → Cells
report_cells first days l = cond (in_month first days l) (day_figure first l ∷ total_figure days l ∷ []) []

unfoldable pub lines_of : ℕ → ℕ → List Record → List ℕ
lines_of first days rs = filled (report_cells first days) report_figures rs

-- what no figure of a full book is above
abbrev pub most_in_figure : ℕ
most_in_figure = most_entries * most_money
