-- `repeated_pairs::period::Period::of` meets its contract. Assumes nothing.
use native.Mathlib.Omega.{arith}
use Rattle.repeated_pairs.proofs.PairLaws.{period-found, month-most}
use Rattle.repeated_pairs.proofs.period.Period.of.Goals as goal

pub overflow_add-month : goal.overflow_add-month
overflow_add-month c =
    omega (arith, c.month_at-month.ensures, month-most c.args.day)

pub invariant_of-result : goal.invariant_of-result
invariant_of-result c =
    record { of_day = period-found c.args.day c.month_at-month.ensures c.month_start.ensures c.month_start-2.ensures }
