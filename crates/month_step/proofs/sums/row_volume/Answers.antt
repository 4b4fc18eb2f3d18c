use mathlib.Core.Path.{refl}
use native.Mathlib.Omega.{arith}
use lib.IntN.{pos}
use mir.Syntax.{w64}
use mir.Val.{to_z}
use Rattle.numbers.specs.Signed.{sum_ℤ}
use Rattle.month_step.specs.Rows.{first_volume}
use Rattle.month_step.proofs.RowLaws.{HourLess, hour-less}
use Rattle.month_step.proofs.sums.row_volume.Given.{Over}
use Rattle.month_step.proofs.sums.row_volume.Goals as goal
use Rattle.month_step.proofs.sums.row_volume.Goals.{After-difference-volume}

-- what an hour adds
turn : (g : Over) (c : After-difference-volume g) →
    HourLess (g.V.Figures.figures c.args.imbalance.now) c.args.at (g.V.Figures.figures c.args.dm.now) c.loop-h.h
    (to_z w64 c.loop-h.volume-bits) c.difference-volume.result
turn g c =
    hour-less _ c.args.at _ c.loop-h.h
    c.requires
    (omega arith)
    c.loop-h.invariant
    c.difference-volume.ensures
    c.figure.type_inv
    c.figure-in-loop-h.type_inv
    (c.figure.ensures (pos 0))
    (c.figure-in-loop-h.ensures (pos 0))

pub loop-h-init : goal.loop-h-init
unfolding first_volume sum_ℤ
loop-h-init g c = refl

pub overflow_add-volume : goal.overflow_add-volume
overflow_add-volume g c = (turn g c).added

pub loop-h-preserved : goal.loop-h-preserved
loop-h-preserved g c = (turn g c).exact
