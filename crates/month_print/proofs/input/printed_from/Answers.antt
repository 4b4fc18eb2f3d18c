-- `month_print::input::printed_from` meets its contract. Assumes nothing.
use native.Mathlib.Nat.{le_trans}
use native.Mathlib.Omega.{arith}
use Rattle.text.proofs.TextLaws.{wrote-whole}
use Rattle.month_print.specs.MonthText.{printed}
use Rattle.month_text.proofs.LineLaws.{refusal-fits}
use Rattle.month_print.proofs.input.printed_from.Goals as goal

pub returns-in-Ok-clause-whole : goal.returns-in-Ok-clause-whole
unfolding printed
returns-in-Ok-clause-whole g c = rw c.in-Ok.is (c.month_on-count.ensures.whole (omega arith))

pub returns-in-Err-clause-whole : goal.returns-in-Err-clause-whole
unfolding printed
returns-in-Err-clause-whole g c =
    rw (c.in-Err.is, ← c.into.ensures) (wrote-whole c.refused-count.ensures (le_trans (refusal-fits _) (omega arith)))
