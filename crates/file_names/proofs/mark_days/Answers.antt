use Rattle.rules.specs.DayFile.{file_names}
use Rattle.file_names.proofs.NameLaws.{marks-step, marks-end}
use Rattle.file_names.proofs.mark_days.Goals as goal

pub loop-item-preserved : goal.loop-item-preserved
loop-item-preserved c = marks-step c.loop-item.invariant c.in-Some.ensures.steps c.mark_day.auto.days c.mark_day.ensures

pub returns : goal.returns
unfolding file_names
returns c = marks-end c.loop-item.invariant c.in-None.ensures.steps.0
