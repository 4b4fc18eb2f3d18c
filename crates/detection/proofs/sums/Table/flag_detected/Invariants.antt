-- `detection::sums::Table::flag_detected` meets its contract. The loop's invariant: the parties passed have their flags. Assumes nothing.
use Rattle.repeated_pairs.proofs.FlagLaws.{Below}
use Rattle.detection.specs.Tables.{detected_among}
use Rattle.detection.proofs.sums.Table.flag_detected.Given as goal

abbrev pub invariant-loop-p : goal.invariant-loop-p
invariant-loop-p l = Below l.p (detected_among l.self l.tolerances.coefficient l.tolerances.tolerance l.among) l.flags
