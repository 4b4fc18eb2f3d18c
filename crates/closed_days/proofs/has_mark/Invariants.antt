-- `closed_days::has_mark` meets its contract. The loop's invariant: the book has a mark if one is among the entries to come. Assumes nothing.
use mathlib.Core.Path.{◌≡◌}
use Prim.Native.Nat.{◌+◌, ◌*◌, ◌-◌}
use lib.ListN.{drop}
use Rattle.numbers.specs.Tests.{any}
use Rattle.rules.specs.Entry.{is_mark}
use Rattle.rules.specs.Words.{count_of, entries, read_entries}
use Rattle.closed_days.proofs.has_mark.Given as goal

abbrev pub invariant-loop-n : goal.invariant-loop-n
invariant-loop-n l =
    any is_mark (entries l.book) ≡ any is_mark (read_entries (count_of l.book - l.n) (drop (3 + 5 * l.n) l.book))
