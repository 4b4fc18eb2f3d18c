-- `calendar::rule::month_start` meets its contract. Assumes nothing.
use mathlib.Core.Path.{◌≡◌, sym}
use Prim.Native.Nat.{ℕ, ◌≤◌}
use native.Mathlib.Omega.{arith}
use Rattle.calendar.specs.Calendar.{leap_days}
use Rattle.calendar.proofs.RuleLaws.{by_rule, leap-most, start-by-rule}
use Rattle.calendar.proofs.rule.month_start.Goals as goal

-- the leap days that the call gave are at most one a year
few : {n r : ℕ} → r ≡ leap_days n → r ≤ n
few {n} e = rw e (leap-most n)

pub overflow_add-result : goal.overflow_add-result
overflow_add-result c = omega (arith, few c.leap_days.ensures)

pub overflow_add-result-3 : goal.overflow_add-result-3
overflow_add-result-3 c = omega (arith, few c.leap_days.ensures)

pub returns : goal.returns
unfolding by_rule
returns c = rw (c.leap_days.ensures, c.from-m.ensures) (sym (start-by-rule c.args.month))
