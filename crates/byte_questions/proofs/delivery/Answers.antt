-- `byte_questions::delivery` meets its contract. Assumes nothing.
use borrow.Author.Rules.{rules}
use Rattle.rules.specs.Balance.{delivery}
use Rattle.byte_questions.proofs.ReplyLaws.{on-reply}
use Rattle.byte_questions.proofs.delivery.Goals as goal

pub returns : goal.returns
returns c = let e = (on-reply c.args.book.now).balance delivery c.args.party c.args.day in search rules
