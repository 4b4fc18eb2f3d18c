-- `word_bytes::word_at` meets its contract. Assumes nothing.
use borrow.Author.Rules.{rules}
use Rattle.word_bytes.specs.Coding.{word_at}
use Rattle.word_bytes.proofs.word_at.Goals as goal

pub returns : goal.returns
unfolding word_at
returns c = search rules
