-- The month report for the back office (02, T-01): a line for each day of a month, and a last line with its totals.
use Rattle.std.specs.Prelude.{cond, List, [], ◌∷◌, ◌++◌, map, ℕ, zero, suc, ◌+◌, ◌-◌, ◌*◌, eqb, ltb, replicate}
use Rattle.numbers.specs.Sums.{sum, total}
use Rattle.numbers.specs.Tests.{every}
use Rattle.numbers.specs.Causes.{unless, first_of, if_done}
use Rattle.calendar.specs.Calendar.{months, month_length, month_start}
use Rattle.rules.specs.Refusals.{not_a_book, bad_figure}
use Rattle.rules.specs.Entry.{Record, key, is_standing, updated_program}
use Rattle.rules.specs.Words.{is_book, entries}
use Rattle.rules.specs.declared.MonthReport.{MonthReport}

-- the sums of a line: types 1 to 20 in order, type 22 last (02, T-02)
abbrev pub report_types : List ℕ
report_types =
    1 ∷ 2 ∷ 3 ∷ 4 ∷ 5 ∷ 6 ∷ 7 ∷ 8 ∷ 9 ∷ 10 ∷ 11 ∷ 12 ∷ 13 ∷ 14 ∷ 15 ∷ 16 ∷ 17 ∷ 18 ∷ 19 ∷ 20 ∷ updated_program ∷ []

-- how many they are, and the place of a type's sum in a line, counted from 0
abbrev pub line_sums : ℕ
line_sums = 21

abbrev pub line_place : ℕ → ℕ
line_place t = cond (eqb t updated_program) 20 (t - 1)

-- the figures of a report: 32 lines, at most 31 of days and one of totals
abbrev pub report_figures : ℕ
report_figures = 672

-- what a record adds to the sum of a day and type: standing entries of all parties count, exports too
unfoldable pub reported : ℕ → ℕ → Record → ℕ
reported d t r = cond (every (is_standing r ∷ eqb (key r).day d ∷ eqb (key r).type t ∷ [])) r.amount 0

unfoldable pub day_sum : List Record → ℕ → ℕ → ℕ
day_sum rs d t = total (reported d t) rs

-- a month's total of a type: its sums of all days of the month
unfoldable pub month_total : List Record → ℕ → ℕ → ℕ
month_total rs m t = sum (month_length m) (λ i. day_sum rs (month_start m + i) t)

-- a line of a day, those of n days from day d on, and that of the totals
unfoldable pub day_line : List Record → ℕ → List ℕ
day_line rs d = map (day_sum rs d) report_types

unfoldable pub day_lines : List Record → ℕ → ℕ → List ℕ
day_lines rs zero d = []
day_lines rs (suc n) d = day_line rs d ++ day_lines rs n (d + 1)

unfoldable pub total_line : List Record → ℕ → List ℕ
total_line rs m = map (month_total rs m) report_types

-- the lines of a month one after the other, that of the totals after the last day's; what is left of the figures is zero
unfoldable pub report_lines : List Record → ℕ → List ℕ
report_lines rs m =
    day_lines rs (month_length m) (month_start m) ++ total_line rs m ++ replicate (report_figures - line_sums * (month_length m + 1)) 0

-- the call: 1, then 12 for a month above 1,199
unfoldable pub month_report_cause : List ℕ → ℕ → ℕ
month_report_cause ws m = first_of (unless (is_book ws) not_a_book ∷ unless (ltb m months) bad_figure ∷ [])

unfoldable pub report_of : List Record → ℕ → MonthReport
report_of rs m =
    record {
      answer = 0;
      month = m;
      first_day = month_start m;
      days = month_length m;
      lines = report_lines rs m;
    }

unfoldable pub refused_report : ℕ → MonthReport
refused_report cause = record { answer = cause; month = 0; first_day = 0; days = 0; lines = replicate report_figures 0 }

unfoldable pub month_report : List ℕ → ℕ → MonthReport
month_report ws m =
    if_done (month_report_cause ws m) (report_of (entries ws) m) (refused_report (month_report_cause ws m))
