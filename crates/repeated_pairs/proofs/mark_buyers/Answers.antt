use mathlib.Core.Path.{sym, ◌∙◌}
use Rattle.cells.proofs.ScanLaws.{book_scan, scan-entry}
use Rattle.repeated_pairs.specs.Pairs.{buyers_of}
use Rattle.repeated_pairs.proofs.PairLaws.{hit-buyer, buyer-marked, buyer-kept}
use Rattle.repeated_pairs.proofs.mark_buyers.Goals as goal
use Rattle.repeated_pairs.proofs.mark_buyers.Goals.{then-is_hit, else-is_hit}

pub loop-i-init : goal.loop-i-init
loop-i-init g c = search book_scan

pub put-requires : goal.put-requires
put-requires g c = hit-buyer _ _ _ _ _ c.entry-e.ensures.legal (sym c.is_hit.ensures ∙ c.if-is_hit.true)

pub loop-i-preserved : goal.loop-i-preserved
loop-i-preserved g c =
    scan-entry c.count-i-end.ensures.count c.loop-i-test.true c.entry-e.ensures.entry c.loop-i.invariant
    (elim c.if-is_hit.branch [
      | then-is_hit w ↦ w.buyers-is ∙ buyer-marked _ _ _ _ _ _ (sym c.is_hit.ensures ∙ w.if-is_hit.true) w.put.ensures
      | else-is_hit w ↦ w.buyers-is ∙ buyer-kept _ _ _ _ _ _ (sym c.is_hit.ensures ∙ w.if-is_hit.false)
    ])

pub returns : goal.returns
unfolding buyers_of
returns g c = search book_scan
