-- `file_check::scan` meets its contract. The loop's invariant: the first cause of the file is that of what is left, and its lines are those counted and those left. Assumes nothing.
use mathlib.Core.Path.{◌≡◌}
use Prim.Native.Nat.{◌+◌}
use lib.ListN.{length}
use Rattle.rules.specs.DayFile.{items, lines_of}
use Rattle.file_walk.specs.Walk.{left_items}
use Rattle.file_check.specs.Check.{first_cause}
use Rattle.file_check.proofs.scan.Given as goal

abbrev pub invariant-loop-item : goal.invariant-loop-item
invariant-loop-item l =
    (first_cause l.closed (items l.file) ≡ first_cause l.closed (left_items l.item-iterator))
    × (length (lines_of (items l.file)) ≡ l.lines + length (lines_of (left_items l.item-iterator)))
