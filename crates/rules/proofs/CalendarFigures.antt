-- Worked figures of 01, 'Units and days', by the Gregorian calendar: of 2000 to 2099 every fourth year is a leap year, 2000 among them.
-- 100 × 365 + 25 = 36,525 days. 2001 begins on day 366, 2004 on 3 × 365 + 366 = 1,461, 2096 on 96 × 365 + 24 = 35,064, 2099 on 36,525 - 365 = 36,160.
-- And of 02, T-08: 2100, 2200 and 2300 are no leap years, so the centuries from 2100 on have 100 × 365 + 24 = 36,524 days.
-- 2101 begins on day 36,525 + 365 = 36,890, 2104 on 36,525 + 4 × 365 = 37,985, 2105 on 38,351, 2200 on 73,049, 2300 on 109,573, 2400 on 146,097.
use mathlib.Core.Bool.{Bool, true, not, ◌&&◌}
use mathlib.Core.List.{List, [], ◌∷◌, map}
use mathlib.Core.Path.{◌≡◌, refl}
use Prim.Native.Nat.{ℕ}
use lib.Dec.{eqb}
use Rattle.numbers.specs.Tests.{every}
use Rattle.calendar.specs.Calendar.{months, days, is_leap, leap_days, days_in, year_of, month_in_year, month_length, month_start, month_of, date_of}
use Rattle.rules.specs.FirstDay.{horizon_months, first_day_answer}
use Rattle.rules.proofs.Worked.{is_date, same_numbers, computed}

-- the months of a year
abbrev of_year : List ℕ
of_year = 1 ∷ 2 ∷ 3 ∷ 4 ∷ 5 ∷ 6 ∷ 7 ∷ 8 ∷ 9 ∷ 10 ∷ 11 ∷ 12 ∷ []

abbrev first_day_is : ℕ → ℕ → Bool
first_day_is m d = eqb (first_day_answer m).answer 0 && eqb (first_day_answer m).day d

abbrev first_day_refused : ℕ → Bool
first_day_refused m = eqb (first_day_answer m).answer 12 && eqb (first_day_answer m).day 0

pub calendar_figures : List Bool
calendar_figures =
    -- leap years
    is_leap 2000
    ∷ not (is_leap 2001)
    ∷ not (is_leap 2002)
    ∷ not (is_leap 2003)
    ∷ is_leap 2004
    ∷ is_leap 2020
    ∷ is_leap 2096
    ∷ not (is_leap 2098)
    ∷ not (is_leap 2099)
    ∷ not (is_leap 2100)
    ∷ is_leap 2400
    -- the length of each month
    ∷ same_numbers (map (days_in 2001) of_year) (31 ∷ 28 ∷ 31 ∷ 30 ∷ 31 ∷ 30 ∷ 31 ∷ 31 ∷ 30 ∷ 31 ∷ 30 ∷ 31 ∷ [])
    ∷ same_numbers (map (days_in 2096) of_year) (31 ∷ 29 ∷ 31 ∷ 30 ∷ 31 ∷ 30 ∷ 31 ∷ 31 ∷ 30 ∷ 31 ∷ 30 ∷ 31 ∷ [])
    -- months 0 and 11 are January and December 2000, 12 is January 2001, 1,199 December 2099
    ∷ same_numbers (map year_of (0 ∷ 11 ∷ 12 ∷ 1199 ∷ [])) (2000 ∷ 2000 ∷ 2001 ∷ 2099 ∷ [])
    ∷ same_numbers (map month_in_year (0 ∷ 11 ∷ 12 ∷ 1199 ∷ [])) (1 ∷ 12 ∷ 1 ∷ 12 ∷ [])
    -- February 2000, 2001 and 2004, April 2000, December 2099
    ∷ same_numbers (map month_length (0 ∷ 1 ∷ 13 ∷ 49 ∷ 3 ∷ 1199 ∷ [])) (31 ∷ 29 ∷ 28 ∷ 29 ∷ 30 ∷ 31 ∷ [])
    -- 1,200 months, 36,525 days and one end entry
    ∷ eqb months 1200
    ∷ eqb days 36525
    ∷ same_numbers (map month_start (0 ∷ 1 ∷ 2 ∷ 3 ∷ 12 ∷ 13 ∷ 14 ∷ 48 ∷ [])) (0 ∷ 31 ∷ 60 ∷ 91 ∷ 366 ∷ 397 ∷ 425 ∷ 1461 ∷ [])
    ∷ same_numbers (map month_start (1152 ∷ 1199 ∷ 1200 ∷ [])) (35064 ∷ 36494 ∷ 36525 ∷ [])
    -- the first and last days of billing periods; a day past the table has month 1,200
    ∷ same_numbers (map month_of (0 ∷ 30 ∷ 31 ∷ 59 ∷ 60 ∷ 365 ∷ 366 ∷ [])) (0 ∷ 0 ∷ 1 ∷ 1 ∷ 2 ∷ 11 ∷ 12 ∷ [])
    ∷ same_numbers (map month_of (36493 ∷ 36494 ∷ 36524 ∷ 36525 ∷ 40000 ∷ [])) (1198 ∷ 1199 ∷ 1199 ∷ 1200 ∷ 1200 ∷ [])
    -- dates: the ends of months of each length
    ∷ is_date (date_of 0) 2000 1 1
    ∷ is_date (date_of 30) 2000 1 31
    ∷ is_date (date_of 31) 2000 2 1
    ∷ is_date (date_of 60) 2000 3 1
    ∷ is_date (date_of 120) 2000 4 30
    ∷ is_date (date_of 365) 2000 12 31
    ∷ is_date (date_of 366) 2001 1 1
    ∷ is_date (date_of 424) 2001 2 28
    ∷ is_date (date_of 425) 2001 3 1
    ∷ is_date (date_of 1520) 2004 2 29
    ∷ is_date (date_of 1521) 2004 3 1
    ∷ is_date (date_of 35123) 2096 2 29
    ∷ is_date (date_of 36219) 2099 3 1
    ∷ []

pub first_day_figures : List Bool
first_day_figures =
    -- no leap years, and leap years beside them
    not (is_leap 2200)
    ∷ not (is_leap 2300)
    ∷ is_leap 2104
    ∷ is_leap 2396
    -- leap days: of 2000, of 2004, of 25 years before 2100, none of 2100, of 97 years before 2400
    ∷ same_numbers (map leap_days (0 ∷ 1 ∷ 4 ∷ 5 ∷ 100 ∷ 101 ∷ 104 ∷ 105 ∷ 400 ∷ 401 ∷ [])) (0 ∷ 1 ∷ 1 ∷ 2 ∷ 25 ∷ 25 ∷ 25 ∷ 26 ∷ 97 ∷ 98 ∷ [])
    -- February 2100, 2104, 2200, 2300, 2396 and 2399
    ∷ same_numbers (map month_length (1201 ∷ 1249 ∷ 2401 ∷ 3601 ∷ 4753 ∷ 4789 ∷ [])) (28 ∷ 29 ∷ 28 ∷ 28 ∷ 29 ∷ 28 ∷ [])
    ∷ eqb horizon_months 4800
    -- January to March 2000, December 2000, January 2001, the table's last month and its end entry
    ∷ first_day_is 0 0
    ∷ first_day_is 1 31
    ∷ first_day_is 2 60
    ∷ first_day_is 11 335
    ∷ first_day_is 12 366
    ∷ first_day_is 1199 36494
    ∷ first_day_is 1200 36525
    -- February and March 2100, December 2100, January 2101: 365 days; February and March 2104, January 2105: 366
    ∷ first_day_is 1201 36556
    ∷ first_day_is 1202 36584
    ∷ first_day_is 1211 36859
    ∷ first_day_is 1212 36890
    ∷ first_day_is 1249 38016
    ∷ first_day_is 1250 38045
    ∷ first_day_is 1260 38351
    -- January and March 2200 and 2300
    ∷ first_day_is 2400 73049
    ∷ first_day_is 2402 73108
    ∷ first_day_is 3600 109573
    ∷ first_day_is 3602 109632
    -- January and December 2399, the last month; the next is refused
    ∷ first_day_is 4788 145732
    ∷ first_day_is 4799 146066
    ∷ first_day_refused 4800
    ∷ first_day_refused 4294967295
    ∷ []

pub calendar_figures-hold : every calendar_figures ≡ true
unfolding computed calendar_figures
calendar_figures-hold = refl

pub first_day_figures-hold : every first_day_figures ≡ true
unfolding computed first_day_figures
first_day_figures-hold = refl
