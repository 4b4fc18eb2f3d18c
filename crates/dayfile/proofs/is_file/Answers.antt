-- `dayfile::is_file` meets its contract. Assumes nothing.
use Rattle.rules.specs.DayFile.{is_file}
use Rattle.dayfile.proofs.is_file.Goals as goal

pub returns-then-size : goal.returns-then-size
unfolding is_file
returns-then-size c = rw c.if-size.true c.shaped.ensures

pub returns-else-size : goal.returns-else-size
unfolding is_file
returns-else-size c = rw c.if-size.false
