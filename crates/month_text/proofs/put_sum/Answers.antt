-- `month_text::put_sum` meets its contract. Assumes nothing.
use native.Mathlib.Omega.{arith}
use Rattle.text.proofs.TextLaws.{puts_then, decimal-printed}
use Rattle.month_text.proofs.put_sum.Goals as goal

pub returns : goal.returns
returns c =
    puts_then c.put.ensures (rw (decimal-printed c.args.sum (omega arith)) at c.put_number.ensures)
