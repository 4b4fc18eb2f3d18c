-- `collateral::months::used_months` meets its contract. Assumes nothing.
use Rattle.std.proofs.Common.{◌≡◌, length, rules, arith}
use Rattle.collateral.proofs.UsedMonths.{take-least}
use Rattle.collateral.proofs.months.used_months.Goals as goal

pub returns : goal.returns
returns c =
    let three : length c.args.months.now ≡ 3 = search rules in
    take-least _ _ (omega arith)
