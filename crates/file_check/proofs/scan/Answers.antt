use mathlib.Core.Path.{◌∙◌}
use native.Mathlib.Omega.{arith}
use Rattle.std.proofs.lemmas.Result.{err_from_is_err_and}
use Rattle.rules.specs.DayFile.{lines_of}
use Rattle.rules.proofs.RefusalLaws.{number-not_zero}
use Rattle.file_walk.specs.Walk.{item_in}
use Rattle.file_check.proofs.CheckLaws.{item-fails, item-passes, one_more, lines-fit}
use Rattle.file_check.proofs.AnswerLaws.{scan-refused, scan-done}
use Rattle.file_check.proofs.scan.Goals as goal

pub returns-in_err-lines : goal.returns-in_err-lines
returns-in_err-lines c =
    let p = err_from_is_err_and c.from_residual.result c.from_residual.ensures.1 in
    λ rs t. rw (p.1, p.2) (scan-refused rs _ _ t (c.loop-item.invariant.0 ∙ item-fails _ (item_in c.in-Some.item) c.in-Some.ensures.steps c.in_err-lines.ensures.answer (number-not_zero _)) (number-not_zero _))

pub overflow_add-lines : goal.overflow_add-lines
overflow_add-lines c =
    omega (arith, c.loop-item.invariant.1, one_more (item_in c.in-Some.item) c.in-Some.ensures.steps, c.in_ok-lines.ensures.ok, lines-fit c.args.file.now, c.requires)

pub loop-item-preserved : goal.loop-item-preserved
loop-item-preserved c =
    let i = item_in c.in-Some.item in (
      c.loop-item.invariant.0 ∙ item-passes _ i c.in-Some.ensures.steps c.in_ok-lines.ensures.answer,
      omega (arith, c.loop-item.invariant.1, one_more i c.in-Some.ensures.steps, c.in_ok-lines.ensures.ok),
    )

pub returns : goal.returns
unfolding lines_of
returns c =
    let e = c.in-None.ensures.steps.0 in
    λ rs t. scan-done rs _ _ t (c.loop-item.invariant.0 ∙ rw e) (c.loop-item.invariant.1 ∙ rw e (omega arith))
