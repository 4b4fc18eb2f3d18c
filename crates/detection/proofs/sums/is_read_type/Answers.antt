-- `detection::sums::is_read_type` meets its contract. Assumes nothing.
use Rattle.detection.proofs.TableLaws.{read-bit}
use Rattle.detection.proofs.sums.is_read_type.Goals as goal

pub returns : goal.returns
returns c = search read-bit
