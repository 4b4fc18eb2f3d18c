-- `empty_passes::is_cancelled_on` meets its contract. Assumes nothing.
use mathlib.Core.Path.{refl}
use Rattle.empty_passes.specs.Sought.{is_cancelled_on}
use Rattle.empty_passes.proofs.is_cancelled_on.Goals as goal

pub returns : goal.returns
unfolding is_cancelled_on
returns c = refl
