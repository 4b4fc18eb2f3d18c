-- `entry_stores::append` meets its contract. Assumes nothing.
use Rattle.rules.specs.Stores.{posted}
use Rattle.entry_stores.proofs.append.Goals as goal

pub returns : goal.returns
unfolding posted
returns c =
    rw (c.store_entry.ensures, c.place_of-at.ensures, c.count_of-count.ensures)
