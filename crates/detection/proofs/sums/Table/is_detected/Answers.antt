-- `detection::sums::Table::is_detected` meets its contract. Assumes nothing.
use mir.Syntax.{w64}
use mir.ValLaws.{to_z-of_z}
use Rattle.detection.specs.Tables.{ahead_at}
use Rattle.detection.proofs.BelowLaws.{no-sales}
use Rattle.detection.proofs.sums.Table.is_detected.Goals as goal

pub returns-then-sales-eq0 : goal.returns-then-sales-eq0
returns-then-sales-eq0 c = no-sales _ _ _ _ (rw (← c.self.view_is) c.if-sales-eq0.true)

pub returns : goal.returns
unfolding ahead_at
returns c =
    rw (c.detected.ensures, to_z-of_z w64 c.balanced.result (record { sfits = c.balanced.type_inv }), c.balanced.ensures, c.max.ensures, ← c.self.view_is)
