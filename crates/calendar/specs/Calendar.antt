-- Days, months and dates (01, 'Units and days'). Day 0 is 2000-01-01; month 0 is January 2000.
use Rattle.std.specs.Prelude.{Bool, not, cond, ◌&&◌, ◌||◌, ℕ, zero, suc, ◌+◌, ◌-◌, ◌/◌, ◌%◌, eqb, ltb}
use Rattle.numbers.specs.Sums.{count_below}

-- the table covers 1,200 months, 2000 to 2099, and their 36,525 days
abbrev pub months : ℕ
months = 1200

abbrev pub days : ℕ
days = 36525

-- the Gregorian rule: every fourth year, of the hundredth years only every fourth
unfoldable pub is_leap : ℕ → Bool
is_leap y = eqb (y % 4) 0 && (not (eqb (y % 100) 0) || eqb (y % 400) 0)

-- how many of the first n years from 2000 on have a leap day (02, T-08)
unfoldable pub leap_days : ℕ → ℕ
leap_days n = count_below n (λ k. is_leap (2000 + k))

-- the days of a month, 1 to 12, of a year
unfoldable pub days_in : ℕ → ℕ → ℕ
days_in y m = cond (eqb m 2) (cond (is_leap y) 29 28) (cond (eqb m 4 || eqb m 6 || eqb m 9 || eqb m 11) 30 31)

-- month n, counted from January 2000, belongs to this year and is this month of it
abbrev pub year_of : ℕ → ℕ
year_of n = 2000 + n / 12

abbrev pub month_in_year : ℕ → ℕ
month_in_year n = 1 + n % 12

unfoldable pub month_length : ℕ → ℕ
month_length n = days_in (year_of n) (month_in_year n)

-- the first day of month n
unfoldable pub month_start : ℕ → ℕ
month_start zero = 0
month_start (suc n) = month_start n + month_length n

-- the month that holds the day `left` days after the start of month m, of k months looked at
unfoldable pub month_from : ℕ → ℕ → ℕ → ℕ
month_from zero m left = m
month_from (suc k) m left =
    let later : ℕ = month_from k (suc m) (left - month_length m) in
    cond (ltb left (month_length m)) m later

-- the billing period of a day; a day past the table has month 1,200
unfoldable pub month_of : ℕ → ℕ
month_of d = month_from months 0 d

-- a calendar date
pub record Date : Type 0 where
  pub year : ℕ
  pub month : ℕ
  pub day : ℕ

unfoldable pub date_of : ℕ → Date
date_of d = record { year = year_of (month_of d); month = month_in_year (month_of d); day = 1 + (d - month_start (month_of d)) }
