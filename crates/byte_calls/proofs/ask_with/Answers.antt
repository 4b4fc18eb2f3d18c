-- `byte_calls::ask_with` meets its contract. Assumes nothing.
use Rattle.word_bytes.proofs.CodingLaws.{needed-most}
use Rattle.byte_calls.proofs.ask_with.Goals as goal

pub ask_in-requires-2-clause-fits : goal.ask_in-requires-2-clause-fits
ask_in-requires-2-clause-fits g c = needed-most 0 _
