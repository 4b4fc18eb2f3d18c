-- `entries_ok` meets its contract. The loop's invariant: the test of all entries is that of the entries still to come. Assumes nothing.
use mathlib.Core.Path.{◌≡◌}
use Prim.Native.Nat.{◌+◌, ◌*◌, ◌-◌}
use lib.ListN.{drop}
use Rattle.rules.specs.Words.{entries_ok}
use Rattle.words.proofs.entries_ok.Given as goal

abbrev pub invariant-loop-i : goal.invariant-loop-i
invariant-loop-i l = entries_ok l.count (drop 3 l.words) ≡ entries_ok (l.count - l.i) (drop (3 + 5 * l.i) l.words)
