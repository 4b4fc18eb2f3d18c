-- `report::put_line` meets its contract. Assumes nothing.
use mir.Syntax.{w64}
use mir.ValLaws.{to_z-of_z}
use native.Mathlib.Omega.{arith}
use Rattle.text.proofs.TextLaws.{puts_then, decimal-printed}
use Rattle.report.specs.Report.{line_text}
use Rattle.report.proofs.put_line.Goals as goal

pub returns : goal.returns
unfolding line_text
returns c =
    let party = rw (decimal-printed c.args.party (omega arith)) at c.put_number.ensures in
    let day = rw (decimal-printed c.args.day (omega arith)) at c.put_number-2.ensures in
    let ahead = rw (to_z-of_z w64 c.args.ahead c.ranges.ahead) at c.put_signed.ensures in
    let due = rw (to_z-of_z w64 c.args.due c.ranges.due) at c.put_signed-2.ensures in
    puts_then (puts_then (puts_then (puts_then party c.put.ensures) (puts_then day c.put-2.ensures)) (puts_then ahead c.put-3.ensures)) (puts_then due c.put-4.ensures)
