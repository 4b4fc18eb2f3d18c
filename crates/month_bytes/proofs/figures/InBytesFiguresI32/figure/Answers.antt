use mathlib.Core.Path.{◌∙◌, ap}
use native.Mathlib.Omega.{arith}
use mir.Syntax.{w32}
use mir.ValLaws.{to_z-of_z}
use Rattle.month_bytes.specs.Tables.{signed_of}
use Rattle.month_bytes.proofs.FigureLaws.{length-figures, figure-here}
use Rattle.month_bytes.proofs.figures.InBytesFiguresI32.figure.Goals as goal

pub overflow_mul-place : goal.overflow_mul-place
overflow_mul-place c = omega (arith, length-figures c.args.self.now.bytes.now)

pub word_at-requires : goal.word_at-requires
word_at-requires c = omega (arith, length-figures c.args.self.now.bytes.now)

pub returns : goal.returns
returns c =
    λ none. to_z-of_z w32 c.signed.result (record { sfits = c.signed.type_inv })
    ∙ c.signed.ensures
    ∙ ap signed_of c.word_at.ensures
    ∙ figure-here c.args.self.now.bytes.now c.args.place none c.requires
