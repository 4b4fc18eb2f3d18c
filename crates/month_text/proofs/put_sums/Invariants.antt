-- `month_text::put_sums` meets its contract. The loop's invariant: the sums so far are put. Assumes nothing.
use Rattle.std.proofs.Common.{take}
use Rattle.text.specs.Written.{Puts}
use Rattle.month_text.specs.ReportText.{sums_text}
use Rattle.month_text.proofs.put_sums.Given as goal

abbrev pub invariant-loop-sum : goal.invariant-loop-sum
invariant-loop-sum l = Puts l.initial.out (sums_text (take l.sum-index l.sums)) l.out
