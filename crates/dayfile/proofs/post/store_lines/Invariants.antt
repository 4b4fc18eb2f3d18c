-- `dayfile::post::store_lines` meets its contract. The loop's invariant: the stores of the whole file are those of what is left over the words so far. Assumes nothing.
use Prim.Native.Nat.{◌+◌, ◌*◌}
use Rattle.rules.specs.DayFile.{items}
use Rattle.file_walk.specs.Walk.{left_items}
use Rattle.dayfile.proofs.PostLaws.{Storing}
use Rattle.dayfile.proofs.post.store_lines.Given as goal

abbrev pub invariant-loop-item : goal.invariant-loop-item
invariant-loop-item l = Storing l.initial.book (3 + 5 * l.number) (items l.file) l.book l.place (left_items l.item-iterator)
