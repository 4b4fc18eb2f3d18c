-- `word_bytes::put_word` meets its contract. Assumes nothing.
use mathlib.Core.Path.{◌∙◌}
use Rattle.word_bytes.proofs.BytesLaws.{le-bytes, put-part}
use Rattle.word_bytes.proofs.put_word.Goals as goal

pub returns : goal.returns
returns c =
    put-part c.args.at c.args.bytes.now _
    (c.copy_from_slice.ensures.after ∙ c.to_le_bytes.ensures ∙ le-bytes c.args.word c.ranges.word.fits)
