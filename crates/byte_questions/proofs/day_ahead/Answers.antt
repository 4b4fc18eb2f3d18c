-- `byte_questions::day_ahead` meets its contract. Assumes nothing.
use borrow.Author.Rules.{rules}
use Rattle.rules.specs.Balance.{day_ahead}
use Rattle.byte_questions.proofs.ReplyLaws.{on-reply}
use Rattle.byte_questions.proofs.day_ahead.Goals as goal

pub returns : goal.returns
returns c = let e = (on-reply c.args.book.now).balance day_ahead c.args.party c.args.day in search rules
