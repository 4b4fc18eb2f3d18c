-- `detection::sums::is_read` meets its contract. Assumes nothing.
use Rattle.detection.specs.Tables.{is_read}
use Rattle.detection.proofs.sums.is_read.Goals as goal

pub returns : goal.returns
unfolding is_read
returns c = rw c.is_read_type.ensures
