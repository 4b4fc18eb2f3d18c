-- `collateral::ranges::CheckedCase::items` meets its contract. Assumes nothing.
use Prim.Native.Nat.{◌+◌, ◌≤◌}
use native.Mathlib.Omega.{arith}
use Rattle.collateral.proofs.CaseLaws.{total-fits, items-are}
use Rattle.collateral.proofs.ranges.CheckedCase.items.Goals as goal
use Rattle.collateral.proofs.ranges.CheckedCase.items.Goals.{After-max}

-- the sum of the items, added one by one
sum_fits : (c : After-max) → c.max.result + c.imbalance-imbalance.result + c.risk-risk.result + c.yek-yek.result ≤ 77974500000000000
sum_fits c = search total-fits

pub overflow_add-total : goal.overflow_add-total
overflow_add-total c = omega (arith, sum_fits (goal.at.overflow_add-total c).After-max)

pub overflow_add-total-2 : goal.overflow_add-total-2
overflow_add-total-2 c = omega (arith, sum_fits (goal.at.overflow_add-total-2 c).After-max)

pub overflow_add-total-3 : goal.overflow_add-total-3
overflow_add-total-3 c = omega (arith, sum_fits (goal.at.overflow_add-total-3 c).After-max)

pub returns : goal.returns
returns c = search items-are
