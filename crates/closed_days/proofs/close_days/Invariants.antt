-- `closed_days::close_days` meets its contract. The loop's invariant: a day is closed in the whole if it is closed in the table or among the entries to come. Assumes nothing.
use mathlib.Core.Path.{◌≡◌}
use mathlib.Core.Bool.{false, ◌||◌}
use Prim.Native.Nat.{ℕ, ◌<◌, ◌+◌, ◌*◌, ◌-◌}
use lib.ListN.{get_or, drop}
use Rattle.rules.specs.Entry.{day_places}
use Rattle.rules.specs.Words.{count_of, entries, read_entries}
use Rattle.rules.specs.Book.{is_closed}
use Rattle.closed_days.proofs.close_days.Given as goal

abbrev pub invariant-loop-i : goal.invariant-loop-i
invariant-loop-i l =
    (d : ℕ) → d < day_places → get_or l.initial.closed d false || is_closed d (entries l.book) ≡ get_or l.closed d false || is_closed d (read_entries (count_of l.book - l.i) (drop (3 + 5 * l.i) l.book))
