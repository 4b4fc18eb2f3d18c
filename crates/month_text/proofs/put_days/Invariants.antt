-- `month_text::put_days` meets its contract. The loop's invariant: the lines before the day are put. Assumes nothing.
use Rattle.text.specs.Text.{each_from}
use Rattle.text.specs.Written.{Puts}
use Rattle.month_text.specs.ReportText.{day_text}
use Rattle.month_text.proofs.put_days.Given as goal

abbrev pub invariant-loop-day : goal.invariant-loop-day
invariant-loop-day l = Puts l.initial.out (each_from (day_text l.first l.lines) l.day 0) l.out
