-- `word_bytes::used` meets its contract. Assumes nothing.
use mathlib.Core.Path.{◌∙◌}
use Rattle.word_bytes.proofs.CodingLaws.{used-none}
use Rattle.word_bytes.proofs.used.Goals as goal

pub returns-then-bytes-lt4 : goal.returns-then-bytes-lt4
returns-then-bytes-lt4 c = c.used_with.ensures ∙ used-none _ _ c.if-bytes-lt4.true
