-- `text::Out::put_bytes` meets its contract. The loop's invariant: the bytes so far are put. Assumes nothing.
use Rattle.std.proofs.Common.{take}
use Rattle.text.specs.Written.{Puts}
use Rattle.text.proofs.Out.put_bytes.Given as goal

abbrev pub invariant-loop-byte : goal.invariant-loop-byte
invariant-loop-byte l = Puts l.initial.self (take l.byte-index l.bytes) l.self
