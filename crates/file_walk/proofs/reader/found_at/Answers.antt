-- `file_walk::reader::found_at` meets its contract. Assumes nothing.
use mathlib.Core.Path.{sym}
use native.Mathlib.Omega.{arith}
use Rattle.file_walk.proofs.ReadLaws.{found_word, found_none}
use Rattle.file_walk.proofs.reader.found_at.Goals as goal
use Rattle.file_walk.proofs.reader.found_at.Goals.{then-size-lt4-via-then-size-lt4, then-size-lt4-via-else-size-lt4+then-size-at}

pub returns-then-size-lt4 : goal.returns-then-size-lt4
returns-then-size-lt4 c =
    elim c.then-size-lt4.branch [
      | then-size-lt4-via-then-size-lt4 w ↦ sym (found_none _ _ (omega arith))
      | then-size-lt4-via-else-size-lt4+then-size-at w ↦ sym (found_none _ _ (omega arith))
    ]

pub returns : goal.returns
returns c = rw (found_word c.args.bytes.now c.args.at (omega arith), c.word_at.ensures)
