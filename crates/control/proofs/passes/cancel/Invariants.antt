-- `control::passes::cancel` meets its contract. The loop's invariant: the entries passed are as the pass leaves them, the others as they were. Assumes nothing.
use mathlib.Core.Path.{◌≡◌}
use lib.ListN.{take}
use Rattle.numbers.specs.Sums.{count}
use Rattle.rules.specs.Words.{entries}
use Rattle.rules.specs.Control.{is_to_cancel}
use Rattle.repeated_pairs.specs.Flags.{flagged}
use Rattle.control.proofs.CancelLaws.{Through}
use Rattle.control.proofs.passes.cancel.Given as goal

abbrev pub invariant-loop-i : goal.invariant-loop-i
invariant-loop-i l =
    Through (flagged l.flags) l.day l.initial.book l.i l.book × (l.n ≡ count (is_to_cancel (flagged l.flags) l.day) (take l.i (entries l.initial.book)))
