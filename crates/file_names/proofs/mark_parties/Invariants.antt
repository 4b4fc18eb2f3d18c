-- `file_names::mark_parties` meets its contract. The loop's invariant: what the file names is what the table has, or what is left names. Assumes nothing.
use Rattle.rules.specs.DayFile.{items}
use Rattle.file_walk.specs.Walk.{left_items}
use Rattle.file_names.specs.Names.{item_has}
use Rattle.file_names.proofs.NameLaws.{Marks}
use Rattle.file_names.proofs.mark_parties.Given as goal

abbrev pub invariant-loop-item : goal.invariant-loop-item
invariant-loop-item l = Marks item_has (items l.file) l.initial.parties l.parties (left_items l.item-iterator)
