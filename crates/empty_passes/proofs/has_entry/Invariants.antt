-- `empty_passes::has_entry` meets its contract. The loop's invariant: the test holds of none of the entries passed. Assumes nothing.
use mathlib.Core.Bool.{false}
use Prim.Native.Nat.{ℕ, ◌<◌}
use Rattle.rules.specs.Entry.{entry_of}
use Rattle.rules.specs.Book.{entry_at}
use Rattle.empty_passes.proofs.has_entry.Given as goal

abbrev pub invariant-loop-i : goal.invariant-loop-i
invariant-loop-i g l = (k : ℕ) → k < l.i → goal.F-post g l.is_sought (entry_of (entry_at l.book k)) false
