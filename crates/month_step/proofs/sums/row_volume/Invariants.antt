-- The loop's invariant: the volume of the hours passed. Assumes nothing.
use mathlib.Core.Path.{◌≡◌}
use Rattle.month_step.specs.Rows.{first_volume}
use Rattle.month_step.proofs.sums.row_volume.Given as goal

abbrev pub invariant-loop-h : goal.invariant-loop-h
invariant-loop-h g l = l.volume ≡ first_volume (g.V.Figures.figures l.imbalance) l.at (g.V.Figures.figures l.dm) l.h
