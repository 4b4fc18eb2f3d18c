-- `file_walk::walk::Items::of` meets its contract. Assumes nothing.
use Rattle.rules.specs.DayFile.{items}
use Rattle.file_walk.proofs.walk.Items.of.Goals as goal

pub returns : goal.returns
unfolding items
returns c = rw (c.new.ensures.0, c.new.ensures.1)
