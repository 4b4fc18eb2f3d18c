-- `repeated_pairs::parties::Flags::count` meets its contract. The loop's invariant: the flags passed are counted. Assumes nothing.
use mathlib.Core.Path.{◌≡◌}
use Rattle.numbers.specs.Sums.{count_below}
use Rattle.repeated_pairs.specs.Flags.{flagged}
use Rattle.repeated_pairs.proofs.parties.Flags.count.Given as goal

abbrev pub invariant-loop-flag : goal.invariant-loop-flag
invariant-loop-flag l = l.n ≡ count_below l.flag-index (flagged l.flag-items)
