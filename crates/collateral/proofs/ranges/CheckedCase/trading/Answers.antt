-- `collateral::ranges::CheckedCase::trading` meets its contract. Assumes nothing.
use native.Mathlib.Omega.{arith}
use Rattle.rules.proofs.Limits.{case-ranges}
use Rattle.collateral.proofs.CaseLaws.{weighted-fits, trading-fits, trading-is}
use Rattle.collateral.proofs.ranges.CheckedCase.trading.Goals as goal

pub trading_days-days-requires : goal.trading_days-days-requires
trading_days-days-requires c = (case-ranges c.args.self.now.case c.args.self.now.in_range).nonbusiness

pub overflow_mul-debt : goal.overflow_mul-debt
overflow_mul-debt c =
    let s = c.args.self.now in
    let d = c.debt_of-debt.ensures in
    rw c.from-weight.ensures (omega (arith, weighted-fits s.case c.args.book.now d.book s.in_range c.trading_days-days.ensures d.debt c.quarters_of-quarters.ensures))

pub overflow_mul-debt-2 : goal.overflow_mul-debt-2
overflow_mul-debt-2 c =
    let s = c.args.self.now in
    let d = c.debt_of-debt.ensures in
    rw c.from-weight.ensures (omega (arith, trading-fits s.case c.args.book.now d.book s.in_range c.trading_days-days.ensures d.debt c.quarters_of-quarters.ensures))

pub returns-clause-trading : goal.returns-clause-trading
returns-clause-trading c =
    let s = c.args.self.now in
    let d = c.debt_of-debt.ensures in
    trading-is s.case c.args.book.now d.book s.in_range c.trading_days-days.ensures d.debt c.quarters_of-quarters.ensures
    (rw c.from-weight.ensures at c.round_up.ensures)
