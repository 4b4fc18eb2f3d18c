use Rattle.std.proofs.Common.{◌≡◌, ◌∙◌, false}
use native.Mathlib.Omega.{arith}
use lib.ListN.{get_or-replicate, length-replicate}
use Rattle.text.specs.Text.{each_from}
use Rattle.text.proofs.TextLaws.{puts_none, puts_next}
use Rattle.report.proofs.ReportLaws.{table-lines}
use Rattle.report.proofs.Filed.put_party.Goals.{then-named, else-named}
use Rattle.report.proofs.Filed.put_party.Goals as goal

pub loop-day-init : goal.loop-day-init
unfolding each_from
loop-day-init c = puts_none _

pub loop-day-preserved : goal.loop-day-preserved
loop-day-preserved c =
    puts_next _ c.loop-day.day c.loop-day.invariant (elim c.if-named.branch [
      | then-named w ↦ rw (w.out-is, w.if-named.true) w.put_pair.ensures
      | else-named w ↦ rw (w.out-is, w.if-named.false) (puts_none _)
    ])

pub returns : goal.returns
returns c =
    let all : c.loop-day.day ≡ 36525 = omega arith in
    rw (← table-lines c.args.self.now.file.now c.args.self.now.book c.args.party c.mark_days.new.days (λ d h. c.mark_days.ensures d (rw length-replicate h) ∙ rw (get_or-replicate 36525 d false false h)))
    (rw all at c.loop-day.invariant)
