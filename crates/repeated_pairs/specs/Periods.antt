-- The billing period of a day is its month.
use Rattle.std.specs.Prelude.{◌≡◌, ◌&&◌, ℕ, ◌≤◌, eqb, leb, ltb}
use Rattle.calendar.specs.Calendar.{month_of}
use Rattle.rules.specs.Entry.{last_day}

-- the days of the month of a day are those from the first to the next
pub record IsPeriod (d first next : ℕ) : Type 0 where
  pub same : (e : ℕ) → e ≤ last_day → leb first e && ltb e next ≡ eqb (month_of e) (month_of d)
