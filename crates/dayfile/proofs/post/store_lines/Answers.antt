use mathlib.Core.Path.{sym, ◌∙◌}
use Rattle.rules.specs.Entry.{key_in}
use Rattle.dayfile.specs.Stored.{stored_from}
use Rattle.dayfile.proofs.PostLaws.{line-within, line-legal, line-on, block-on}
use Rattle.dayfile.proofs.post.store_lines.Goals as goal

pub store_entry-requires-clause-at_in_bounds : goal.store_entry-requires-clause-at_in_bounds
store_entry-requires-clause-at_in_bounds c =
    line-within c.loop-item.invariant (key_in c.in-Line.key) c.in-Line.amount (rw c.in-Line.is at c.in-Some.ensures.steps)

pub store_entry-requires-clause-amount_value : goal.store_entry-requires-clause-amount_value
store_entry-requires-clause-amount_value c =
    line-legal c.loop-item.invariant (key_in c.in-Line.key) c.in-Line.amount (rw c.in-Line.is at c.in-Some.ensures.steps)

pub loop-item-preserved-in-Line : goal.loop-item-preserved-in-Line
loop-item-preserved-in-Line c =
    line-on c.loop-item.invariant (key_in c.in-Line.key) c.in-Line.amount (rw c.in-Line.is at c.in-Some.ensures.steps) c.store_entry.ensures

pub loop-item-preserved : goal.loop-item-preserved
loop-item-preserved c =
    block-on c.loop-item.invariant c.in_default.field-0 c.in_default.field-1 (rw c.in_default.is at c.in-Some.ensures.steps)

pub returns : goal.returns
unfolding stored_from
returns c = sym (c.loop-item.invariant.same ∙ rw c.in-None.ensures.steps.0)
