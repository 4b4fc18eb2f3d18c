use native.Mathlib.Omega.{arith}
use Rattle.std.proofs.Common.{rules}
use Rattle.text.specs.Text.{each_from}
use Rattle.text.proofs.TextLaws.{puts_none, puts_then, puts_next, puts_all, decimal-printed}
use Rattle.month_lines.specs.Lines.{entry_line, table_text}
use Rattle.month_lines.proofs.put_lines.Goals as goal

pub loop-month-init : goal.loop-month-init
unfolding each_from
loop-month-init c = puts_none _

pub loop-month-preserved : goal.loop-month-preserved
unfolding entry_line
loop-month-preserved c =
    let number = rw (decimal-printed c.month_start.result (omega arith), c.month_start.ensures) at c.put_number.ensures in
    puts_next entry_line c.loop-month.month c.loop-month.invariant (puts_then number c.put.ensures)

pub returns : goal.returns
unfolding table_text
returns c =
    let whole = puts_all c.new-text.ensures c.loop-month.invariant in
    search (rules, whole)
