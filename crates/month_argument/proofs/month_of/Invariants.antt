-- `month_argument::month_of` meets its contract. The loop's invariant: what is left is to go on from the number. Assumes nothing.
use Rattle.std.proofs.Common.{◌≡◌, ◌<◌, drop}
use Rattle.calendar.specs.Calendar.{months}
use Rattle.month_argument.specs.Longer.{month_from}
use Rattle.month_argument.proofs.month_of.Given as goal

abbrev pub invariant-loop-digit : goal.invariant-loop-digit
invariant-loop-digit l = (l.number < months) × (month_from l.number (drop l.digit-index l.digits) ≡ month_from 0 l.digits)
