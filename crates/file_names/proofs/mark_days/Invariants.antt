-- `file_names::mark_days` meets its contract. The loop's invariant: what the file names is what the table has, or what is left names. Assumes nothing.
use Rattle.rules.specs.DayFile.{items, item_names}
use Rattle.file_walk.specs.Walk.{left_items}
use Rattle.file_names.proofs.NameLaws.{Marks}
use Rattle.file_names.proofs.mark_days.Given as goal

abbrev pub invariant-loop-item : goal.invariant-loop-item
invariant-loop-item l = Marks (item_names l.party) (items l.file) l.initial.days l.days (left_items l.item-iterator)
