-- `collateral::months::months_ok` meets its contract. Assumes nothing.
use mathlib.Core.Path.{◌∙◌}
use Rattle.std.proofs.Common.{rules, tests}
use Rattle.std.proofs.lemmas.Iterator.{YieldsList-from_slice}
use Rattle.std.proofs.lemmas.Iterator.Search.{all_from_yields_List}
use Rattle.rules.specs.Collateral.{month_ok}
use Rattle.collateral.proofs.UsedMonths.{list_all-is}
use Rattle.collateral.proofs.months.months_ok.Goals as goal

pub returns : goal.returns
returns c =
    let ms = c.args.months.now in
    all_from_yields_List month_ok _ _ _ c.all.ensures.ran (YieldsList-from_slice ms cc) (λ x b q k. search (rules, tests))
    ∙ list_all-is month_ok ms
