-- `detection::sums::detect` meets its contract. Assumes nothing.
use mathlib.Core.Path.{refl, ◌∙◌}
use Rattle.rules.proofs.WordLaws.{book-facts}
use Rattle.cells.specs.Cells.{blank}
use Rattle.detection.proofs.DetectLaws.{table-within, table-detects}
use Rattle.detection.proofs.sums.detect.Goals as goal

pub fill-requires : goal.fill-requires
unfolding blank
fill-requires c = refl

pub invariant_of-tolerances : goal.invariant_of-tolerances
invariant_of-tolerances c =
    let f = book-facts c.args.book.now c.fill.ensures.book in
    record { coefficient_within = rw c.coefficient.ensures f.coefficient; tolerance_within = rw c.tolerance.ensures f.tolerance }

pub flag_detected-requires : goal.flag_detected-requires
flag_detected-requires c = rw c.fill.ensures.table (table-within c.args.book.now c.fill.ensures.book c.args.day)

pub returns : goal.returns
returns c =
    c.flag_detected.ensures ∙ rw (c.coefficient.ensures, c.tolerance.ensures) (search table-detects)
