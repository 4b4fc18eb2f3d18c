-- `collateral::months::lowest_volume` meets its contract. Assumes nothing.
use mathlib.Core.Path.{ap, ◌∙◌}
use lib.IntN.{pos}
use Rattle.std.proofs.Common.{unwrap_or, rules, tests}
use Rattle.std.proofs.lemmas.Iterator.{YieldsList-from_slice, YieldsList-from_map}
use Rattle.std.proofs.lemmas.Iterator.Consumers.{reduce_from_yields_List}
use Rattle.collateral.proofs.UsedMonths.{volume-back, lowest-is}
use Rattle.collateral.proofs.months.lowest_volume.Goals as goal

pub returns : goal.returns
returns c =
    let ms = c.args.months.now in
    volume-back _ c.unwrap_or.type_inv
    ∙ c.unwrap_or.ensures
    ∙ ap (λ o. unwrap_or o (pos 0)) (reduce_from_yields_List _ c.map.result _ c.min.ensures.ran (YieldsList-from_map _ (λ m. m.aedm) (YieldsList-from_slice ms cc) c.map.ensures.closure (λ x b q k. search (rules, tests))))
    ∙ lowest-is ms
