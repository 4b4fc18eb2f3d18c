-- `report::Filed::put_pair` meets its contract. Assumes nothing.
use mathlib.Core.Path.{◌∙◌}
use mir.Syntax.{w64}
use mir.ValLaws.{to_z-of_z}
use Rattle.rules.specs.Balance.{day_ahead, delivery}
use Rattle.report.specs.Report.{line_of}
use Rattle.report.proofs.ReportLaws.{asked-balance}
use Rattle.report.proofs.Filed.put_pair.Goals as goal

pub returns : goal.returns
unfolding line_of
returns c =
    let x = to_z-of_z w64 c.day_ahead.result (record { sfits = c.day_ahead.type_inv }) ∙ c.day_ahead.ensures in
    let y = to_z-of_z w64 c.delivery.result (record { sfits = c.delivery.type_inv }) ∙ c.delivery.ensures in
    let q = c.requires in
    let f = c.scan-figures.ensures in
    rw (← asked-balance q day_ahead f.day f.coefficient f.tolerance x, ← asked-balance q delivery f.day f.coefficient f.tolerance y) c.put_line.ensures
