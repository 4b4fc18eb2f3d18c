-- `file_walk::reader::Reader::take_words` meets its contract. The loop's invariant: the words taken and those still to take are those of the whole. Assumes nothing.
use Rattle.file_walk.proofs.ReadLaws.{Taken}
use Rattle.file_walk.proofs.reader.Reader.take_words.Given as goal

abbrev pub invariant-loop-word : goal.invariant-loop-word
invariant-loop-word g l = Taken g.row.N l.self l.word-index l.reader l.word-items
