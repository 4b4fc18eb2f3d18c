-- `Book::kept` meets its contract. Assumes nothing.
use mathlib.Core.Path.{sym, ◌∙◌}
use borrow.Author.Tests.{ne_eqb}
use Rattle.rules.specs.Book.{shut_to}
use Rattle.words.specs.Parts.{kept}
use Rattle.words.proofs.Book.kept.Goals as goal

pub returns-then-e-ne-STANDING : goal.returns-then-e-ne-STANDING
unfolding kept
returns-then-e-ne-STANDING c = rw (ne_eqb _ 0 c.if-e-ne-STANDING.true)

pub returns-then-e-eq-MARK : goal.returns-then-e-eq-MARK
unfolding kept shut_to
returns-then-e-eq-MARK c = rw (c.if-e-ne-STANDING.false, c.if-e-eq-MARK.true)

pub returns-then-shut_to : goal.returns-then-shut_to
unfolding kept
returns-then-shut_to c = rw (c.if-e-ne-STANDING.false, sym c.shut_to.ensures ∙ c.if-shut_to.true)

pub returns : goal.returns
unfolding kept
returns c = rw (c.if-e-ne-STANDING.false, sym c.shut_to.ensures ∙ c.if-shut_to.false, ne_eqb _ 21 c.if-e-eq-MARK.false)
