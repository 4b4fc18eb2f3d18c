-- `detection::sums::side_of` meets its contract. Assumes nothing.
use Rattle.detection.proofs.TableLaws.{side-bits}
use Rattle.detection.proofs.sums.side_of.Goals as goal

pub returns : goal.returns
returns c = search side-bits
