-- `control::passes::is_to_cancel` meets its contract. Assumes nothing.
use Rattle.rules.specs.Control.{is_to_cancel}
use Rattle.control.proofs.passes.is_to_cancel.Goals as goal

pub returns : goal.returns
unfolding is_to_cancel
returns c = rw c.has.ensures
