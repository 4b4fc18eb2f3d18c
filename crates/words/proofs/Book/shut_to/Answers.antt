-- `Book::shut_to` meets its contract. Assumes nothing.
use Rattle.rules.specs.Book.{shut_to}
use Rattle.entry_checks.proofs.Ladder.{passed, failed}
use Rattle.words.proofs.Book.shut_to.Goals as goal

pub returns-then-not-is_bilateral : goal.returns-then-not-is_bilateral
unfolding shut_to
returns-then-not-is_bilateral c = rw (failed c.is_bilateral.ensures c.if-not-is_bilateral.true)

pub returns : goal.returns
unfolding shut_to
returns c =
    rw (passed c.is_bilateral.ensures c.if-not-is_bilateral.false) c.is_closed.ensures
