-- `file_walk::reader::Reader::take` meets its contract. Assumes nothing.
use native.Mathlib.Omega.{arith}
use mathlib.Core.Path.{sym}
use Rattle.file_walk.proofs.ReadLaws.{found-within}
use Rattle.file_walk.proofs.reader.Reader.take.Goals as goal

pub overflow_add-at : goal.overflow_add-at
overflow_add-at c = omega (arith, found-within _ _ (sym c.in-Some.ensures))
