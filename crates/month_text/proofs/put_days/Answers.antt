use Rattle.text.specs.Text.{each_from}
use Rattle.text.proofs.TextLaws.{puts_none, puts_next}
use Rattle.month_text.proofs.put_days.Goals as goal

pub loop-day-init : goal.loop-day-init
unfolding each_from
loop-day-init c = puts_none _

pub loop-day-preserved : goal.loop-day-preserved
loop-day-preserved c =
    puts_next _ c.loop-day.day c.loop-day.invariant (rw (c.from.ensures, c.from-in-loop-day.ensures) at c.put_line.ensures)
