-- `file_writer::line_words` meets its contract. Assumes nothing.
use Rattle.file_writer.proofs.WriteLaws.{line_refused, line-written}
use Rattle.file_writer.proofs.line_words.Goals as goal

pub returns-then-not-fits : goal.returns-then-not-fits
returns-then-not-fits c = line_refused c.args.entry_type c.args.counterparty c.args.amount c.if-not-fits.true

pub returns : goal.returns
returns c = line-written c.args.entry_type c.args.counterparty c.args.amount c.if-not-fits.false
