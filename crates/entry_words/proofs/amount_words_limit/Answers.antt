-- `entry_words::amount_words_limit` meets its contract. Assumes nothing.
use mathlib.Core.Path.{sym, ◌∙◌}
use Rattle.rules.specs.Entry.{amount_limit}
use Rattle.entry_words.proofs.amount_words_limit.Goals as goal

pub returns-then-is_money : goal.returns-then-is_money
unfolding amount_limit
returns-then-is_money c = rw (sym c.is_money.ensures ∙ c.if-is_money.true)

pub returns-else-is_money : goal.returns-else-is_money
unfolding amount_limit
returns-else-is_money c = rw (sym c.is_money.ensures ∙ c.if-is_money.false)
