-- `report::Filed::put_parties` meets its contract. The loop's invariant: the lines of the parties before are put. Assumes nothing.
use Prim.Native.Nat.{◌-◌}
use Rattle.text.specs.Text.{each_from}
use Rattle.text.specs.Written.{Puts}
use Rattle.report.specs.Report.{party_lines}
use Rattle.report.proofs.Filed.put_parties.Given as goal

abbrev pub invariant-loop-party : goal.invariant-loop-party
invariant-loop-party l = Puts l.initial.out (each_from (party_lines l.self.file.now l.self.book) (l.party - 1) 1) l.out
