-- `report::Filed::put_party` meets its contract. The loop's invariant: the lines before the day are put. Assumes nothing.
use mathlib.Core.Bool.{false, cond}
use mathlib.Core.List.{[]}
use lib.ListN.{get_or}
use Rattle.text.specs.Text.{each_from}
use Rattle.text.specs.Written.{Puts}
use Rattle.report.specs.Report.{line_of}
use Rattle.report.proofs.Filed.put_party.Given as goal

abbrev pub invariant-loop-day : goal.invariant-loop-day
invariant-loop-day l =
    Puts l.initial.out (each_from (λ d. cond (get_or l.named-items d false) (line_of l.self.book l.party d) []) l.day 0) l.out
