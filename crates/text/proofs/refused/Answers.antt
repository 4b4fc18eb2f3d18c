-- `text::refused` meets its contract. Assumes nothing.
use native.Mathlib.Omega.{arith}
use Rattle.std.proofs.Common.{rules}
use Rattle.text.specs.Text.{refusal}
use Rattle.text.proofs.TextLaws.{puts_then, puts_all, decimal-printed}
use Rattle.text.proofs.refused.Goals as goal

pub returns : goal.returns
unfolding refusal
returns c =
    let number = rw (decimal-printed c.args.cause (omega arith)) at c.put_number.ensures in
    let whole = puts_all c.new-text.ensures (puts_then (puts_then c.put_bytes.ensures number) c.put.ensures) in
    search (rules, whole)
