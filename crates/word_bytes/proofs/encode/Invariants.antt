-- The loop's invariant: the bytes of the first k words stand over the first bytes.
use mathlib.Core.Path.{◌≡◌}
use Prim.Native.Nat.{◌*◌}
use mathlib.Core.List.{◌++◌}
use lib.ListN.{length, take, drop}
use Rattle.word_bytes.specs.Bytes.{bytes_of}
use Rattle.word_bytes.proofs.encode.Given as goal

abbrev pub invariant-loop-k : goal.invariant-loop-k
invariant-loop-k l = (length l.bytes ≡ length l.initial.bytes) × (l.bytes ≡ bytes_of (take l.k l.words) ++ drop (4 * l.k) l.initial.bytes)
