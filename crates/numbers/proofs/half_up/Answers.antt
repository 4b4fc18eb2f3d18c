use mathlib.Core.Path.{sym}
use native.Mathlib.Nat.{pos_of_ne-zero}
use Rattle.numbers.proofs.RoundingLaws.{half_up-by-zero, half_up-down, half_up-up}
use Rattle.numbers.proofs.half_up.Goals as goal

pub returns-then-b-eq0 : goal.returns-then-b-eq0
returns-then-b-eq0 c = rw c.if-b-eq0.true (sym (half_up-by-zero c.args.a))

pub returns-then-rest-b : goal.returns-then-rest-b
returns-then-rest-b c = search half_up-down

pub returns-else-rest-b : goal.returns-else-rest-b
returns-else-rest-b c = search (half_up-up, pos_of_ne-zero)
