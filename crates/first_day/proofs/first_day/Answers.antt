-- `first_day::first_day` meets its contract. Assumes nothing.
use native.Mathlib.Omega.{arith}
use Rattle.calendar.proofs.RuleLaws.{start-most}
use Rattle.first_day.proofs.first_day.Goals as goal

pub overflow_cast-result : goal.overflow_cast-result
overflow_cast-result c = omega (arith, start-most c.args.month (omega arith), c.month_start.ensures)
