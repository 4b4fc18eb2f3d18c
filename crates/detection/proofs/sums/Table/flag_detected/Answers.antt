use mathlib.Core.Path.{sym, ◌∙◌}
use mathlib.Core.Bool.{false}
use native.Mathlib.Omega.{arith}
use borrow.Author.Tests.{ltb-false}
use Rattle.repeated_pairs.proofs.FlagLaws.{below-start, below_set, below-skip, below_end}
use Rattle.detection.proofs.BelowLaws.{no-sales, detected-none, detected-past, detected-asked, detected-not_asked}
use Rattle.detection.proofs.sums.Table.flag_detected.Goals as goal
use Rattle.detection.proofs.sums.Table.flag_detected.Goals.{then-has+then-has_sale, else-has, else-has-via-then-has+else-has_sale, else-has-via-else-has}

pub loop-p-init : goal.loop-p-init
loop-p-init c = let a = c.args in below-start _ _ c.none-flags.ensures (detected-none a.self.now a.tolerances.coefficient a.tolerances.tolerance a.among.now)

pub loop-p-preserved : goal.loop-p-preserved
loop-p-preserved c =
    let a = c.args in
    let b = c.loop-p.invariant in
    let asked = detected-asked a.self.now a.tolerances.coefficient a.tolerances.tolerance a.among.now c.loop-p.p in
    elim c.if-has.branch [
      | then-has+then-has_sale w ↦
          rw w.flags-is (rw w.put.ensures (below_set _ c.loop-p.p c.loop-p.flags b w.is_detected.result (omega arith)
          (asked w.is_detected.result (rw c.has.ensures at w.if-has.true) (omega arith) (omega arith) w.is_detected.ensures)))
      | else-has w ↦
          rw w.flags-is (below-skip _ c.loop-p.p c.loop-p.flags b (elim w.else-has.branch [
            | else-has-via-then-has+else-has_sale v ↦
                sym (asked false (rw c.has.ensures at v.if-has.true) (omega arith) (omega arith)
                (no-sales _ _ _ _ (omega (arith, ltb-false _ _ (sym v.has_sale.ensures ∙ v.if-has_sale.false)))))
            | else-has-via-else-has v ↦ detected-not_asked a.self.now a.tolerances.coefficient a.tolerances.tolerance a.among.now c.loop-p.p (rw c.has.ensures at v.if-has.false)
          ]))
    ]

pub returns : goal.returns
returns c =
    let a = c.args in
    below_end _ c.loop-p.p c.loop-p.flags c.loop-p.invariant c.loop-p-test.false (detected-past a.self.now a.tolerances.coefficient a.tolerances.tolerance a.among.now)
