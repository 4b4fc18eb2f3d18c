-- The loop's invariant: both sums of the rows passed. Assumes nothing.
use mathlib.Core.Path.{◌≡◌}
use Rattle.rules.specs.Month.{weighted_prices, weights}
use Rattle.month_step.specs.Read.{read}
use Rattle.month_step.proofs.TableLaws.{first_rows}
use Rattle.month_step.proofs.sums.figures.Given as goal

abbrev pub invariant-loop-row : goal.invariant-loop-row
invariant-loop-row g l =
    (l.weighted ≡ weighted_prices (first_rows (read g.P.Figures.figures g.V.Figures.figures l.m) l.row))
    × (l.weights ≡ weights (first_rows (read g.P.Figures.figures g.V.Figures.figures l.m) l.row))
