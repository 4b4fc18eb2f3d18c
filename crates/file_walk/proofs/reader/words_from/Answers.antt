-- `file_walk::reader::words_from` meets its contract. Assumes nothing.
use mathlib.Core.Path.{ap, ◌∙◌}
use Rattle.file_walk.proofs.ReadLaws.{plain-words}
use Rattle.file_walk.proofs.reader.words_from.Goals as goal

pub returns : goal.returns
returns g c = ap (λ t. t.1) c.take_words-words.ensures ∙ rw (plain-words g.row.N c.new.result, c.new.ensures.0, c.new.ensures.1)
