-- `word_bytes::write_back` meets its contract. Assumes nothing.
use borrow.Author.Rules.{rules}
use Rattle.word_bytes.proofs.CodingLaws.{over-empty}
use Rattle.word_bytes.proofs.write_back.Goals as goal

pub returns-else-not-is_empty : goal.returns-else-not-is_empty
returns-else-not-is_empty g c =
    let e = over-empty c.args.words.now c.args.bytes.now (search rules) in search rules
