-- The first day of a month of the years 2000 to 2399 (02, T-08).
use Rattle.std.specs.Prelude.{[], ◌∷◌, ℕ, ltb}
use Rattle.numbers.specs.Causes.{unless, first_of, if_done}
use Rattle.calendar.specs.Calendar.{month_start}
use Rattle.rules.specs.Refusals.{bad_figure}
use Rattle.rules.specs.declared.FirstDayAnswer.{FirstDayAnswer}

-- the months from January 2000 to December 2399, 400 × 12
abbrev pub horizon_months : ℕ
horizon_months = 4800

unfoldable pub first_day_cause : ℕ → ℕ
first_day_cause m = first_of (unless (ltb m horizon_months) bad_figure ∷ [])

-- the day is a number as in 01, 'Units and days', and may lie past the last day of a book
unfoldable pub first_day_answer : ℕ → FirstDayAnswer
first_day_answer m = record { answer = first_day_cause m; day = if_done (first_day_cause m) (month_start m) 0 }
