-- `word_bytes::count_in` meets its contract. Assumes nothing.
use mathlib.Core.Path.{sym, ◌∙◌}
use Rattle.word_bytes.proofs.CodingLaws.{count-odd, count-whole}
use Rattle.word_bytes.proofs.count_in.Goals as goal

pub returns-then-not-is_whole : goal.returns-then-not-is_whole
returns-then-not-is_whole c = count-odd _ _ (sym c.is_whole.ensures ∙ c.if-not-is_whole.true)

pub returns : goal.returns
returns c = count-whole _ _ (sym c.is_whole.ensures ∙ c.if-not-is_whole.false) c.min.ensures
