-- `collateral::months::highest_price` meets its contract. Assumes nothing.
use Rattle.std.proofs.Common.{unwrap_or, ap, ◌∙◌, rules, tests}
use Rattle.std.proofs.lemmas.Iterator.{YieldsList-from_slice, YieldsList-from_map}
use Rattle.std.proofs.lemmas.Iterator.Consumers.{reduce_from_yields_List}
use Rattle.std.proofs.lemmas.List.Folds.{max_of_map}
use Rattle.collateral.proofs.UsedMonths.{highest-is}
use Rattle.collateral.proofs.months.highest_price.Goals as goal

pub returns : goal.returns
returns c =
    let ms = c.args.months.now in
    c.unwrap_or.ensures
    ∙ ap (λ o. unwrap_or o 0) (reduce_from_yields_List _ c.map.result _ c.max.ensures.ran (YieldsList-from_map _ (λ m. m.aosmf) (YieldsList-from_slice ms cc) c.map.ensures.closure (λ x b q k. search (rules, tests))))
    ∙ max_of_map (λ m. m.aosmf) ms
    ∙ highest-is ms
