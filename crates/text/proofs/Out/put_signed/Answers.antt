-- `text::Out::put_signed` meets its contract. Assumes nothing.
use native.Mathlib.Omega.{arith}
use mir.Syntax.{w64}
use mir.ValLaws.{to_z-of_z}
use Rattle.text.proofs.TextLaws.{puts_then, decimal-printed, signed-negative, signed-other}
use Rattle.text.proofs.Out.put_signed.Goals.{then-x-lt0, else-x-lt0}
use Rattle.text.proofs.Out.put_signed.Goals as goal

pub returns : goal.returns
returns c =
    let x = c.args.x in
    let back = to_z-of_z w64 x c.ranges.x in
    let size = rw back at c.magnitude.ensures in
    let number = rw (decimal-printed c.magnitude.result (omega arith), size) at c.put_number.ensures in
    elim c.if-x-lt0.branch [
      | then-x-lt0 w ↦ rw (signed-negative x (rw back at w.if-x-lt0.true)) (puts_then w.put.ensures (rw w.self-is at number))
      | else-x-lt0 w ↦ rw (signed-other x (rw back at w.if-x-lt0.false)) (rw w.self-is at number)
    ]
