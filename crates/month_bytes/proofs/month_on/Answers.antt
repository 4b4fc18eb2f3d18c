use mathlib.Core.Path.{refl}
use Rattle.month_bytes.specs.Tables.{month_on_bytes}
use Rattle.month_bytes.proofs.month_on.Goals as goal

pub returns-then-not-is_whole : goal.returns-then-not-is_whole
unfolding month_on_bytes
returns-then-not-is_whole c = rw (← c.is_whole.ensures, ← c.is_whole-2.ensures, ← c.is_whole-3.ensures, c.if-not-is_whole.true) refl

pub returns : goal.returns
unfolding month_on_bytes
returns c = rw (← c.is_whole.ensures, ← c.is_whole-2.ensures, ← c.is_whole-3.ensures, c.if-not-is_whole.false) c.step.ensures
