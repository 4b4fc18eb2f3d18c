-- A month's number as its digits come. Only the contracts of internal functions cite it.
use Rattle.std.specs.Prelude.{cond, Option, None, Some, List, ℕ, ◌+◌, ◌-◌, ◌*◌, ltb}
use Rattle.numbers.specs.Tests.{all}
use Rattle.calendar.specs.Calendar.{months}
use Rattle.month_argument.specs.Argument.{is_digit, number_from}

-- a month's number, or none
abbrev pub month_at : ℕ → Option ℕ
month_at n = cond (ltb n months) (Some n) None

-- after one byte more
abbrev pub longer : ℕ → ℕ → Option ℕ
longer n b = cond (is_digit b) (month_at (10 * n + (b - 48))) None

-- after more bytes
unfoldable pub month_from : ℕ → List ℕ → Option ℕ
month_from n bs = cond (all is_digit bs) (month_at (number_from n bs)) None
