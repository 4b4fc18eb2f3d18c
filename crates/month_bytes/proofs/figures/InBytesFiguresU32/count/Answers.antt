use mathlib.Core.Path.{sym, ◌∙◌}
use Rattle.word_bytes.proofs.BytesLaws.{length-words}
use Rattle.month_bytes.proofs.figures.InBytesFiguresU32.count.Goals as goal

pub returns : goal.returns
returns c = c.figures.ensures ∙ sym (length-words c.args.self.now.bytes.now)
