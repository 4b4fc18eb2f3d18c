-- `byte_questions::tally` meets its contract. Assumes nothing.
use borrow.Author.Rules.{rules}
use Rattle.byte_questions.proofs.ReplyLaws.{on-reply}
use Rattle.byte_questions.proofs.tally.Goals as goal

pub returns : goal.returns
returns c = let e = (on-reply c.args.book.now).tally c.args.party c.args.day in search rules
