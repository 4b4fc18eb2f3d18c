-- `check` meets its contract. Assumes nothing.
use borrow.Author.Tests.{le-leb, lt-leb}
use Rattle.rules.specs.Book.{open_cause}
use Rattle.opening.proofs.Opened.{fits, figure-off}
use Rattle.opening.proofs.check.Goals as goal

pub returns-then-lent-coefficient : goal.returns-then-lent-coefficient
unfolding open_cause
returns-then-lent-coefficient c = fits _ _ c.if-lent-coefficient.true

pub returns-then-lent-lt-HEAD_WORDS : goal.returns-then-lent-lt-HEAD_WORDS
unfolding open_cause
returns-then-lent-lt-HEAD_WORDS c = rw (lt-leb 3 c.args.lent c.if-lent-lt-HEAD_WORDS.true)

pub returns : goal.returns
unfolding open_cause
returns c =
    let long = le-leb 3 c.args.lent c.if-lent-lt-HEAD_WORDS.false in
    rw (long) (figure-off _ (rw long at c.if-lent-coefficient.false))
