use native.Mathlib.Omega.{arith}
use Rattle.month_step.proofs.ScanLaws.{all_more, all_end}
use Rattle.month_step.proofs.ranges.each.Goals as goal

pub loop-i-preserved : goal.loop-i-preserved
loop-i-preserved g c =
    λ ok tests. all_more ok _ c.loop-i.ok _ c.loop-i.i _ (omega arith) c.figure.ensures (tests _ _ c.test-ok.ensures) (c.loop-i.invariant ok tests)

pub returns : goal.returns
returns g c = λ ok tests. all_end ok _ c.loop-i.ok c.loop-i.i (omega arith) (omega arith) (c.loop-i.invariant ok tests)
