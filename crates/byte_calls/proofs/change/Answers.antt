-- `byte_calls::change` meets its contract. Assumes nothing.
use Rattle.word_bytes.proofs.CodingLaws.{needed-most}
use Rattle.byte_calls.proofs.change.Goals as goal

pub change_in-requires-2-clause-fits : goal.change_in-requires-2-clause-fits
change_in-requires-2-clause-fits g c = needed-most _ _
