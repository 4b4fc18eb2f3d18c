-- `Book::is_closed` meets its contract. The loop's invariant: the day is closed by all entries exactly when it is by those
-- still to come. Assumes nothing.
use mathlib.Core.Path.{◌≡◌}
use Prim.Native.Nat.{◌+◌, ◌*◌, ◌-◌}
use lib.ListN.{drop}
use Rattle.rules.specs.Words.{read_entries, entries, count_of}
use Rattle.rules.specs.Book.{is_closed}
use Rattle.words.proofs.Book.is_closed.Given as goal

abbrev pub invariant-loop-i : goal.invariant-loop-i
invariant-loop-i l =
    is_closed l.day (entries l.self) ≡ is_closed l.day (read_entries (count_of l.self - l.i) (drop (3 + 5 * l.i) l.self))
