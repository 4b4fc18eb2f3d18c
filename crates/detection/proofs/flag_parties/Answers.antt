-- `detection::flag_parties` meets its contract. Assumes nothing.
use mathlib.Core.Path.{◌∙◌}
use Rattle.detection.proofs.DetectLaws.{all_asked}
use Rattle.detection.proofs.flag_parties.Goals as goal

pub returns-in-First : goal.returns-in-First
returns-in-First c = c.detect.ensures ∙ rw c.in-First.is (all_asked _ _ c.all.ensures)
