-- `repeated_pairs::parties::Flags::all` meets its contract. Assumes nothing.
use mathlib.Core.Path.{refl}
use Rattle.repeated_pairs.specs.Flags.{all_flags}
use Rattle.repeated_pairs.proofs.parties.Flags.all.Goals as goal

pub returns : goal.returns
unfolding all_flags
returns c = refl
