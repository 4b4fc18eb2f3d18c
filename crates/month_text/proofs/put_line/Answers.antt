-- `month_text::put_line` meets its contract. Assumes nothing.
use Prim.Native.Nat.{◌+◌, ◌-◌, ◌*◌}
use mathlib.Core.Path.{◌≡◌}
use native.Mathlib.Omega.{arith}
use Rattle.text.proofs.TextLaws.{puts_then, decimal-printed}
use Rattle.month_text.specs.ReportText.{line_text}
use Rattle.month_text.proofs.put_line.Goals as goal

pub returns : goal.returns
unfolding line_text
returns c =
    let number = rw (decimal-printed c.args.number (omega arith)) at c.put_number.ensures in
    let sums : 21 * c.args.line + 21 - 21 * c.args.line ≡ 21 = omega arith in
    puts_then (puts_then number (rw sums at c.put_sums.ensures)) c.put.ensures
