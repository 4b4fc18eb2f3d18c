-- `month_lines::put_lines` meets its contract. The loop's invariant: the lines before the month are put. Assumes nothing.
use Rattle.text.specs.Text.{each_from}
use Rattle.text.specs.Written.{Puts}
use Rattle.month_lines.specs.Lines.{entry_line}
use Rattle.month_lines.proofs.put_lines.Given as goal

abbrev pub invariant-loop-month : goal.invariant-loop-month
invariant-loop-month l = Puts l.initial.text (each_from entry_line l.month 0) l.text
