use Rattle.std.proofs.lemmas.List.{take_all}
use Rattle.text.proofs.TextLaws.{puts_none, puts_then}
use Rattle.month_text.specs.ReportText.{sums_text}
use Rattle.month_text.proofs.LineLaws.{sums_next}
use Rattle.month_text.proofs.put_sums.Goals as goal

pub loop-sum-init : goal.loop-sum-init
unfolding sums_text
loop-sum-init c = puts_none _

pub loop-sum-preserved : goal.loop-sum-preserved
loop-sum-preserved c =
    rw (sums_next _ c.loop-sum.sum-index c.loop-sum-test.true) (puts_then c.loop-sum.invariant c.put_sum.ensures)

pub returns : goal.returns
returns c = rw (take_all _ _ c.loop-sum-test.false) at c.loop-sum.invariant
