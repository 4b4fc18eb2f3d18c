-- `Book::entry` meets its contract. Assumes nothing.
use mathlib.Core.Path.{ap, ◌∙◌}
use Rattle.rules.specs.Entry.{record_in, entry_of, legal}
use Rattle.words.proofs.Book.entry.Goals as goal

pub returns-clause-entry : goal.returns-clause-entry
returns-clause-entry c = c.entry.ensures ∙ ap entry_of c.entry_words.ensures.entry

pub returns-clause-legal : goal.returns-clause-legal
returns-clause-legal c = ap (λ e. legal (record_in e)) c.entry.ensures ∙ c.entry_words.ensures.legal
