-- `tally::scan` meets its contract. The loop's invariant: the tally and B of the entries passed. Assumes nothing.
use Rattle.tally.proofs.TallyLaws.{SoFar}
use Rattle.tally.proofs.scan.Given as goal

abbrev pub invariant-loop-i : goal.invariant-loop-i
invariant-loop-i l = SoFar l.book l.party l.day l.i l.tally l.bought
