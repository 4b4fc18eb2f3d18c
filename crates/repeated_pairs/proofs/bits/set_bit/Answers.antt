-- `repeated_pairs::bits::set_bit` meets its contract. Assumes nothing.
use Rattle.repeated_pairs.proofs.BitLaws.{bit-stored}
use Rattle.repeated_pairs.proofs.bits.set_bit.Goals as goal

pub returns : goal.returns
returns c = search bit-stored
