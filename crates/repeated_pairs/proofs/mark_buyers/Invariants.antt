-- `repeated_pairs::mark_buyers` meets its contract. The loop's invariant: the flags are those of the entries passed. Assumes nothing.
use Rattle.rules.specs.Words.{count_of}
use Rattle.cells.proofs.ScanLaws.{Scanned}
use Rattle.repeated_pairs.specs.Flags.{no_flags}
use Rattle.repeated_pairs.specs.Pairs.{is_few, buyer_marked}
use Rattle.repeated_pairs.proofs.mark_buyers.Given as goal

abbrev pub invariant-loop-i : goal.invariant-loop-i
invariant-loop-i g l = Scanned (buyer_marked (is_few g.row.WORDS) l.day l.among l.pairs) no_flags l.book (count_of l.book) l.i l.buyers
