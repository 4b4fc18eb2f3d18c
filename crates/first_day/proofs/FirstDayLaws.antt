-- What a host may rely on of the answers, over the month number (02, T-08). Assumes nothing.
use mathlib.Core.Path.{◌≡◌, refl, sym, ◌∙◌, ap}
use Prim.Native.Nat.{ℕ, suc, ◌+◌, ◌≤◌, ◌<◌}
use native.Mathlib.Omega.{arith}
use lib.ListN.{get_or}
use borrow.Author.Tests.{lt-ltb}
use Rattle.calendar.specs.Calendar.{months, month_length, month_start}
use Rattle.calendar.proofs.MonthLaws.{start-zero, start-step}
use Rattle.calendar.proofs.MonthTable.{table, table_at}
use Rattle.calendar.proofs.RuleLaws.{by_rule, start-by-rule}
use Rattle.rules.specs.FirstDay.{horizon_months, first_day_cause, first_day_answer}

-- a month of 2000 to 2399 is answered by 0 and this day
abbrev Begins : ℕ → ℕ → Type 0
Begins m d = first_day_answer m ≡ record { answer = 0; day = d }

begins : (m d : ℕ) → m < horizon_months → month_start m ≡ d → Begins m d
unfolding first_day_answer first_day_cause
begins m d h q = rw (lt-ltb m horizon_months h) (ap (λ s. record { answer = 0; day = s }) q)

pub begins-by-rule : (m : ℕ) → m < horizon_months → Begins m (by_rule m)
begins-by-rule m h = begins m _ h (start-by-rule m)

-- January 2000 begins on day 0, and a month where the one before ends
pub first-begins : Begins 0 0
first-begins = begins 0 0 (omega arith) start-zero

pub next-begins : (m d : ℕ) → suc m < horizon_months → Begins m d → Begins (suc m) (d + month_length m)
next-begins m d h e =
    let day : month_start m ≡ d = ap (λ a. a.day) (sym (begins m _ (omega arith) refl) ∙ e) in
    begins (suc m) _ h (start-step m ∙ ap (λ s. s + month_length m) day)

-- at each place the constant table's entry
pub begins-by-table : (k : ℕ) → k ≤ months → Begins k (get_or table k 0)
begins-by-table k h = begins k _ (omega arith) (sym (table_at k h))
