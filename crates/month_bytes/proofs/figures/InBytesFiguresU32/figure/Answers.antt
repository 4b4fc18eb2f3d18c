use mathlib.Core.Path.{◌∙◌}
use native.Mathlib.Omega.{arith}
use Rattle.word_bytes.proofs.BytesLaws.{length-words}
use Rattle.month_bytes.proofs.FigureLaws.{word-here}
use Rattle.month_bytes.proofs.figures.InBytesFiguresU32.figure.Goals as goal

pub overflow_mul-place : goal.overflow_mul-place
overflow_mul-place c = omega (arith, length-words c.args.self.now.bytes.now)

pub word_at-requires : goal.word_at-requires
word_at-requires c = omega (arith, length-words c.args.self.now.bytes.now)

pub returns : goal.returns
returns c = λ none. c.word_at.ensures ∙ word-here c.args.self.now.bytes.now c.args.place none c.requires
