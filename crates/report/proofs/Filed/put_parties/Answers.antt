use Rattle.std.proofs.Common.{◌≡◌, ◌∙◌, ◌-◌, false, sym}
use native.Mathlib.Omega.{arith}
use lib.ListN.{get_or-replicate, length-replicate}
use Rattle.text.specs.Text.{each_from}
use Rattle.text.proofs.TextLaws.{puts_none, puts_past}
use Rattle.report.specs.Report.{all_lines}
use Rattle.report.proofs.ReportLaws.{no_lines}
use Rattle.report.proofs.Filed.put_parties.Goals.{then-parties-party, else-parties-party}
use Rattle.report.proofs.Filed.put_parties.Goals as goal

pub loop-party-init : goal.loop-party-init
unfolding each_from
loop-party-init c = puts_none _

pub loop-party-preserved : goal.loop-party-preserved
loop-party-preserved c =
    let p = c.loop-party.party in
    let h = c.loop-party-test.true in
    puts_past _ 1 p (omega arith) c.loop-party.invariant (elim c.if-parties-party.branch [
      | then-parties-party w ↦ rw w.out-is w.put_party.ensures
      | else-parties-party w ↦ (
          let marked = c.mark_parties.ensures p (rw length-replicate h) ∙ rw (get_or-replicate 1000 p false false h) in
          rw (w.out-is, no_lines c.args.self.now.file.now c.args.self.now.book p (sym marked ∙ w.if-parties-party.false)) (puts_none _)
          )
    ])

pub returns : goal.returns
unfolding all_lines
returns c =
    let all : c.loop-party.party - 1 ≡ 999 = omega arith in
    rw all at c.loop-party.invariant
