-- `detection::flag_second` meets its contract. Assumes nothing.
use Rattle.detection.proofs.SecondLaws.{none-likely, none-detected, all_found}
use Rattle.detection.proofs.flag_second.Goals as goal

pub returns-then-count-eq0 : goal.returns-then-count-eq0
returns-then-count-eq0 c =
    let b = c.buyers-likely.ensures in
    none-likely _ b.book _ _ _ c.all.ensures b.flags _ c.count.ensures c.if-count-eq0.true c.none.ensures

pub returns-then-count-eq0-2 : goal.returns-then-count-eq0-2
returns-then-count-eq0-2 c =
    let b = c.buyers-likely.ensures in
    none-detected _ b.book _ _ _ c.all.ensures b.flags _ c.detect-detected.ensures _ c.count-2.ensures c.if-count-eq0-2.true c.none-then-count-eq0-2.ensures

pub returns : goal.returns
returns c =
    let b = c.buyers-likely.ensures in
    all_found _ b.book _ _ _ c.all.ensures b.flags _ c.detect-detected.ensures _ c.buyers.ensures.flags
