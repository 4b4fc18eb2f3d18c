use Rattle.file_names.specs.Names.{names_party}
use Rattle.file_names.proofs.NameLaws.{marks-step, marks-end}
use Rattle.file_names.proofs.mark_parties.Goals as goal

pub loop-item-preserved : goal.loop-item-preserved
loop-item-preserved c = marks-step c.loop-item.invariant c.in-Some.ensures.steps c.mark_party.auto.parties c.mark_party.ensures

pub returns : goal.returns
unfolding names_party
returns c = marks-end c.loop-item.invariant c.in-None.ensures.steps.0
