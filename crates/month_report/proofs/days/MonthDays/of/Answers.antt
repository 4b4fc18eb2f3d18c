-- `month_report::days::MonthDays::of` meets its contract. Assumes nothing.
use native.Mathlib.Omega.{arith}
use Rattle.calendar.specs.Calendar.{months}
use Rattle.calendar.proofs.MonthLaws.{start-mono, start-end}
use Rattle.month_report.proofs.ReportLaws.{Span, month-days}
use Rattle.month_report.proofs.days.MonthDays.of.Goals as goal
use Rattle.month_report.proofs.days.MonthDays.of.Goals.{After-month_start-next}

span : (c : After-month_start-next) → Span c.args.month c.month_start-first.result c.month_start-next.result
span c = month-days c.args.month c.if-month-ge-MONTHS.false c.month_start-first.ensures c.month_start-next.ensures

pub overflow_cast-first : goal.overflow_cast-first
overflow_cast-first c =
    omega (arith, c.month_start-first.ensures, start-mono c.args.month months (omega arith), start-end)

pub overflow_cast-next : goal.overflow_cast-next
overflow_cast-next c = omega (arith, span (goal.at.overflow_cast-next c).After-month_start-next)

pub overflow_sub-result : goal.overflow_sub-result
overflow_sub-result c = (span (goal.at.overflow_sub-result c).After-month_start-next).in_order

pub invariant_of-result : goal.invariant_of-result
invariant_of-result c =
    let s = span (goal.at.invariant_of-result c).After-month_start-next in
    record { first_within = omega (arith, s); few = s.few }

pub returns-clause-count : goal.returns-clause-count
returns-clause-count c = (span (goal.at.returns-clause-count c).After-month_start-next).length-is
