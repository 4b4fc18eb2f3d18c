use mathlib.Core.Path.{◌≡◌, refl}
use native.Mathlib.Omega.{arith}
use Rattle.numbers.specs.Sums.{sum}
use Rattle.rules.specs.Month.{weighted_prices, weights}
use Rattle.rules.proofs.Limits.{month-ranges}
use Rattle.month_step.specs.Read.{read}
use Rattle.month_step.proofs.TableLaws.{RowAdded, row-added, row-place, priced, beside_dm, figures-are}
use Rattle.month_step.proofs.sums.figures.Given.{Over}
use Rattle.month_step.proofs.sums.figures.Goals as goal
use Rattle.month_step.proofs.sums.figures.Goals.{After-row_sums-sums}

-- what a row adds, from the result of `row_sums`
turn : (g : Over) (c : After-row_sums-sums g) →
    RowAdded (read g.P.Figures.figures g.V.Figures.figures c.args.m.now)
    c.loop-row.row c.loop-row.weighted c.loop-row.weights c.row_sums-sums.result.weighted c.row_sums-sums.result.weights
turn g c =
    row-added _ (month-ranges _ c.requires) c.loop-row.row
    c.loop-row-test.true
    c.loop-row.invariant.0
    c.loop-row.invariant.1
    (rw c.count-hours.ensures at c.row_sums-sums.ensures.weighted)
    (rw c.count-hours.ensures at c.row_sums-sums.ensures.weights)

pub loop-row-init : goal.loop-row-init
unfolding weighted_prices weights sum
loop-row-init g c = (refl, refl)

pub overflow_mul-row : goal.overflow_mul-row
overflow_mul-row g c =
    let h = row-place _ (month-ranges _ c.requires) c.loop-row.row c.loop-row-test.true in
    rw c.count-hours.ensures (omega arith)

pub row_sums-sums-requires : goal.row_sums-sums-requires
row_sums-sums-requires g c =
    rw c.count-hours.ensures (priced _ (month-ranges _ c.requires) c.loop-row.row c.loop-row-test.true)

pub overflow_add-weighted : goal.overflow_add-weighted
overflow_add-weighted g c = omega (arith, turn g (goal.at.overflow_add-weighted g c).After-row_sums-sums)

pub overflow_add-weights : goal.overflow_add-weights
overflow_add-weights g c = omega (arith, turn g (goal.at.overflow_add-weights g c).After-row_sums-sums)

pub loop-row-preserved : goal.loop-row-preserved
loop-row-preserved g c =
    let t = turn g (goal.at.loop-row-preserved g c).After-row_sums-sums in
    (t.weighted-more, t.weights-more)

pub overflow_mul-m : goal.overflow_mul-m
overflow_mul-m g c =
    let r = month-ranges _ c.requires in
    let h = row-place _ r c.args.m.now.group r.group in
    rw c.count-hours.ensures (omega arith)

pub row_volume-aedm-requires : goal.row_volume-aedm-requires
row_volume-aedm-requires g c = rw c.count-hours.ensures (beside_dm _ (month-ranges _ c.requires))

pub returns : goal.returns
returns g c =
    let last : c.loop-row.row ≡ c.args.m.now.rows = omega arith in
    figures-are _ (month-ranges _ c.requires) c.loop-row.row c.loop-row.weighted c.loop-row.weights
    last
    c.loop-row.invariant.0
    c.loop-row.invariant.1
    c.average-aosmf.ensures
    (rw c.count-hours.ensures at c.row_volume-aedm.ensures)
    (record { sfits = c.row_volume-aedm.type_inv })
