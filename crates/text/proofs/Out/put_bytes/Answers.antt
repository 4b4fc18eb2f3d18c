use Rattle.std.proofs.Common.{ℕ}
use Rattle.std.proofs.lemmas.List.{take_more, take_all}
use Rattle.text.proofs.TextLaws.{puts_none, puts_then}
use Rattle.text.proofs.Out.put_bytes.Goals as goal

pub loop-byte-init : goal.loop-byte-init
loop-byte-init c = puts_none _

pub loop-byte-preserved : goal.loop-byte-preserved
loop-byte-preserved c = rw (take_more {X = ℕ} _ c.loop-byte.byte-index 0 c.loop-byte-test.true) (puts_then c.loop-byte.invariant c.put.ensures)

pub returns : goal.returns
returns c = rw (take_all _ _ c.loop-byte-test.false) at c.loop-byte.invariant
