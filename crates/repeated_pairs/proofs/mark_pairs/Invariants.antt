-- `repeated_pairs::mark_pairs` meets its contract. Assumes nothing.
use mathlib.Core.Path.{◌≡◌}
use Rattle.numbers.specs.Sums.{count}
use Rattle.rules.specs.Words.{count_of}
use Rattle.cells.specs.Cells.{blank}
use Rattle.cells.proofs.ScanLaws.{Scanned, read_to}
use Rattle.repeated_pairs.specs.Pairs.{is_few, is_other, pair_marked, bit_words}
use Rattle.repeated_pairs.proofs.mark_pairs.Given as goal

abbrev pub invariant-loop-i : goal.invariant-loop-i
invariant-loop-i g l =
    Scanned (pair_marked (is_few g.row.WORDS) l.day) (blank (bit_words (is_few g.row.WORDS))) l.book (count_of l.book) l.i l.pairs
    × (l.n ≡ count (is_other l.day) (read_to l.book l.i))
    × (l.period.day ≡ l.day)
