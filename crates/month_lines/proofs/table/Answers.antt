-- `month_lines::table` meets its contract. Assumes nothing.
use native.Mathlib.Nat.{le_trans}
use native.Mathlib.Omega.{arith}
use Rattle.text.proofs.TextLaws.{wrote-whole}
use Rattle.month_lines.proofs.LineLaws.{table_fits}
use Rattle.month_lines.proofs.table.Goals as goal

pub returns-clause-whole : goal.returns-clause-whole
returns-clause-whole c =
    let w = c.put_lines.ensures in
    wrote-whole w (le_trans table_fits (omega arith))
