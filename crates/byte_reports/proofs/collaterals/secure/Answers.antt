-- `byte_reports::collaterals::secure` meets its contract. Assumes nothing.
use borrow.Author.Rules.{rules}
use Rattle.byte_reports.proofs.ReportLaws.{on-collateral}
use Rattle.byte_reports.proofs.collaterals.secure.Goals as goal

pub returns : goal.returns
returns c = let e = on-collateral c.args.book.now c.args.case in search rules
