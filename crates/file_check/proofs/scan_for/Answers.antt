-- `file_check::scan_for` meets its contract. Assumes nothing.
use Rattle.entry_checks.proofs.Ladder.{told}
use Rattle.file_check.proofs.CheckLaws.{none-closed}
use Rattle.file_check.proofs.scan_for.Goals as goal

pub returns-clause-scan : goal.returns-clause-scan
returns-clause-scan c = c.scan.ensures _ (none-closed _ (told c.has_mark.ensures.mark c.if-has_mark.false))
