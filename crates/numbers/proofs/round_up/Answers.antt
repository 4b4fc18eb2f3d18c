use mathlib.Core.Path.{sym, ◌∙◌}
use native.Mathlib.Nat.{pos_of_ne-zero}
use Rattle.numbers.proofs.RoundingLaws.{round_up-by-zero, round_up-ceil}
use Rattle.numbers.proofs.round_up.Goals as goal

pub returns-then-b-eq0 : goal.returns-then-b-eq0
returns-then-b-eq0 c = rw c.if-b-eq0.true (sym (round_up-by-zero c.args.a))

pub returns : goal.returns
returns c = c.div_ceil.ensures ∙ round_up-ceil c.args.a c.args.b (pos_of_ne-zero c.if-b-eq0.false)
