-- `control::passes::append_mark` meets its contract. Assumes nothing.
use Rattle.rules.proofs.BookLaws.{mark-legal}
use Rattle.control.proofs.passes.append_mark.Goals as goal

pub append-requires-clause-amount_value : goal.append-requires-clause-amount_value
append-requires-clause-amount_value c = mark-legal c.args.day c.requires.1
