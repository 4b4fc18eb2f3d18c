-- The loop's invariant: both sums of the hours passed. Assumes nothing.
use mathlib.Core.Path.{◌≡◌}
use Rattle.month_step.specs.Rows.{first_weighted, first_weights}
use Rattle.month_step.proofs.sums.row_sums.Given as goal

abbrev pub invariant-loop-h : goal.invariant-loop-h
invariant-loop-h g l =
    (l.weighted ≡ first_weighted (g.P.Figures.figures l.prices) (g.V.Figures.figures l.imbalance) l.at l.h)
    × (l.weights ≡ first_weights (g.V.Figures.figures l.imbalance) l.at l.h)
