-- `control::passes::run_pass` meets its contract. Assumes nothing.
use Rattle.control.proofs.NobodyLaws.{no-counts, no_change}
use Rattle.control.proofs.passes.run_pass.Goals as goal

pub returns-then-has_nobody-clause-counts : goal.returns-then-has_nobody-clause-counts
returns-then-has_nobody-clause-counts c =
    no-counts _ _ (rw c.known.ensures at (c.has_nobody.ensures c.if-has_nobody.true))

pub returns-then-has_nobody-clause-words : goal.returns-then-has_nobody-clause-words
returns-then-has_nobody-clause-words c =
    no_change _ _ (rw c.known.ensures at (c.has_nobody.ensures c.if-has_nobody.true)) c.requires
