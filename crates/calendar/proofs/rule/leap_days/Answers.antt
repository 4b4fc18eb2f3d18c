-- `calendar::rule::leap_days` meets its contract. Assumes nothing.
use mathlib.Core.Path.{sym}
use Rattle.calendar.proofs.RuleLaws.{leap-rule}
use Rattle.calendar.proofs.rule.leap_days.Goals as goal

pub returns : goal.returns
returns c = rw c.from-n.ensures (sym (leap-rule c.args.years))
