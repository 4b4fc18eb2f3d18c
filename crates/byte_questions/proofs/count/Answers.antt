-- `byte_questions::count` meets its contract. Assumes nothing.
use borrow.Author.Rules.{rules}
use Rattle.byte_questions.proofs.ReplyLaws.{on-reply}
use Rattle.byte_questions.proofs.count.Goals as goal

pub returns : goal.returns
returns c = let e = (on-reply c.args.book.now).count in search rules
