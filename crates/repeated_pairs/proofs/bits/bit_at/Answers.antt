-- `repeated_pairs::bits::bit_at` meets its contract. Assumes nothing.
use mathlib.Core.Path.{refl}
use Rattle.repeated_pairs.specs.Pairs.{bit_at}
use Rattle.repeated_pairs.proofs.bits.bit_at.Goals as goal

pub returns : goal.returns
unfolding bit_at
returns c = refl
