-- `month_bytes::figures::signed` meets its contract. Assumes nothing.
use mathlib.Core.Path.{◌∙◌}
use mir.Syntax.{w32, w64}
use mir.ValLaws.{to_z-of_z}
use Rattle.month_bytes.proofs.FigureLaws.{signed-fits, less-cast}
use Rattle.month_bytes.proofs.figures.signed.Goals as goal

pub returns : goal.returns
returns c =
    let w = c.args.word in
    let f = c.ranges.word.fits in
    rw (to_z-of_z w64 c.from.result (record { sfits = c.from.type_inv }), c.from.ensures, c.from-2.ensures)
    (to_z-of_z w32 _ (rw (less-cast w f) (signed-fits w f)) ∙ less-cast w f)
