-- `word_bytes::store` meets its contract. Assumes nothing.
use mathlib.Core.Path.{◌∙◌}
use Rattle.word_bytes.proofs.CodingLaws.{stored-parts}
use Rattle.word_bytes.proofs.store.Goals as goal

pub returns : goal.returns
returns c =
    c.put_word.ensures
    ∙ stored-parts c.args.words.now c.args.bytes.now _ _ c.end_of-end.result c.end_of-end.ensures.0 c.end_of-end.ensures.1 c.requires.words_in_bounds c.encode.ensures c.encode-2.ensures
