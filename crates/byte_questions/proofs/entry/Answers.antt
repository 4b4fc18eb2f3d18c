-- `byte_questions::entry` meets its contract. Assumes nothing.
use borrow.Author.Rules.{rules}
use Rattle.byte_questions.proofs.ReplyLaws.{on-reply}
use Rattle.byte_questions.proofs.entry.Goals as goal

pub returns : goal.returns
returns c = let e = (on-reply c.args.book.now).entry c.args.number in search rules
