-- `file_check::scan_marked` meets its contract. Assumes nothing.
use mathlib.Core.Path.{◌∙◌}
use mathlib.Core.Bool.{false}
use lib.ListN.{get_or-replicate}
use Rattle.file_check.proofs.scan_marked.Goals as goal

pub returns : goal.returns
returns c = c.scan.ensures _ (λ d h. c.close_days.ensures d h ∙ rw (get_or-replicate 36525 d false false h))
