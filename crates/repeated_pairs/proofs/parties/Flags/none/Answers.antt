-- `repeated_pairs::parties::Flags::none` meets its contract. Assumes nothing.
use mathlib.Core.Path.{refl}
use Rattle.repeated_pairs.specs.Flags.{no_flags}
use Rattle.repeated_pairs.proofs.parties.Flags.none.Goals as goal

pub returns : goal.returns
unfolding no_flags
returns c = refl
