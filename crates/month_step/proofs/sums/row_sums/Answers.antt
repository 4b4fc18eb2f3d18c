use mathlib.Core.Path.{refl, ◌∙◌, ap}
use native.Mathlib.Omega.{arith}
use lib.IntN.{pos, nat_abs}
use Rattle.numbers.specs.Sums.{sum}
use Rattle.month_step.specs.Rows.{first_weighted, first_weights}
use Rattle.month_step.proofs.BitLaws.{exact32}
use Rattle.month_step.proofs.RowLaws.{HourPriced, hour-priced}
use Rattle.month_step.proofs.sums.row_sums.Given.{Over}
use Rattle.month_step.proofs.sums.row_sums.Goals as goal
use Rattle.month_step.proofs.sums.row_sums.Goals.{After-from}

-- what an hour of the row adds
turn : (g : Over) (c : After-from g) →
    HourPriced (g.P.Figures.figures c.args.prices.now) (g.V.Figures.figures c.args.imbalance.now) c.args.at c.loop-h.h
    c.from-weight.result c.from.result c.loop-h.weighted c.loop-h.weights
turn g c =
    hour-priced _ _ c.args.at c.loop-h.h
    c.requires
    (omega arith)
    (c.from-weight.ensures ∙ c.size.ensures ∙ ap nat_abs (exact32 c.figure.result c.figure.type_inv ∙ c.figure.ensures (pos 0)))
    (c.from.ensures ∙ c.figure-in-loop-h.ensures 0)
    c.loop-h.invariant.0
    c.loop-h.invariant.1

pub loop-h-init : goal.loop-h-init
unfolding first_weighted first_weights sum
loop-h-init g c = (refl, refl)

pub overflow_add-weighted : goal.overflow_add-weighted
overflow_add-weighted g c = omega (arith, turn g (goal.at.overflow_add-weighted g c).After-from)

pub overflow_add-weights : goal.overflow_add-weights
overflow_add-weights g c = omega (arith, turn g (goal.at.overflow_add-weights g c).After-from)

pub loop-h-preserved : goal.loop-h-preserved
loop-h-preserved g c = let t = turn g c in (t.weighted-more, t.weights-more)
