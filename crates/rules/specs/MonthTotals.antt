-- What 02, T-01 says of a month report's totals, over the book's records and without the report's lines.
use Rattle.std.specs.Prelude.{◌≡◌, Bool, true, cond, List, [], ◌∷◌, ℕ, ◌+◌, ◌*◌, eqb, get_or}
use Rattle.numbers.specs.Sums.{sum, total}
use Rattle.numbers.specs.Tests.{every}
use Rattle.calendar.specs.Calendar.{month_length, month_start, month_of}
use Rattle.rules.specs.Entry.{Record, key, is_standing, is_export, is_type, bilateral, last_party}
use Rattle.rules.specs.Words.{entries}
use Rattle.rules.specs.Balance.{tally_answer}
use Rattle.rules.specs.MonthReport.{line_sums, line_place, month_report}
use Rattle.rules.specs.declared.MonthReport.{MonthReport}

-- the records of which a test holds, and their amounts together
unfoldable pub chosen : (Record → Bool) → List Record → List Record
chosen test [] = []
chosen test (r ∷ rs) = cond (test r) (r ∷ chosen test rs) (chosen test rs)

unfoldable pub amounts : List Record → ℕ
amounts rs = total (λ r. r.amount) rs

-- a standing record of a type in a month, and a standing export in it
unfoldable pub of_month : ℕ → ℕ → Record → Bool
of_month m t r = every (is_standing r ∷ eqb (key r).type t ∷ eqb (month_of (key r).day) m ∷ [])

unfoldable pub export_of : ℕ → Record → Bool
export_of m r = every (is_standing r ∷ is_export (key r) ∷ eqb (month_of (key r).day) m ∷ [])

-- the bilateral purchases of parties 1 to 999 on the days of a month: B of each, as the tally tells it
unfoldable pub purchases : List ℕ → ℕ → ℕ
purchases ws m = sum last_party (λ p. sum (month_length m) (λ i. (tally_answer ws (p + 1) (month_start m + i)).bought))

-- the total of a type: it stands in the line after the last day
abbrev pub total_in : MonthReport → ℕ → ℕ
total_in r t = get_or r.lines (line_sums * r.days + line_place t) 0

-- 02's two sentences
pub record TotalsHold (ws : List ℕ) (m : ℕ) : Type 0 where
  -- each total equals the sum over the book's standing records of its type in that month
  pub records : (t : ℕ) → is_type t ≡ true → total_in (month_report ws m) t ≡ amounts (chosen (of_month m t) (entries ws))
  -- the total of bilateral sales equals all parties' bilateral purchases plus exports
  pub bilateral-sales : total_in (month_report ws m) bilateral ≡ purchases ws m + amounts (chosen (export_of m) (entries ws))

-- of every report that is not refused
abbrev pub MonthTotals : Type 0
MonthTotals = (ws : List ℕ) (m : ℕ) → (month_report ws m).answer ≡ 0 → TotalsHold ws m
