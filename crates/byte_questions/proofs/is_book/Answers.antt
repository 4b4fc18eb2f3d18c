-- `byte_questions::is_book` meets its contract. Assumes nothing.
use borrow.Author.Rules.{rules}
use Rattle.byte_questions.proofs.ReplyLaws.{on-reply}
use Rattle.byte_questions.proofs.is_book.Goals as goal

pub returns : goal.returns
returns c = let e = (on-reply c.args.book.now).book in search rules
