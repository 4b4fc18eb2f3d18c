use mathlib.Core.Path.{sym, ◌∙◌}
use Rattle.month_bytes.proofs.FigureLaws.{length-figures}
use Rattle.month_bytes.proofs.figures.InBytesFiguresI32.count.Goals as goal

pub returns : goal.returns
returns c = c.figures.ensures ∙ sym (length-figures c.args.self.now.bytes.now)
