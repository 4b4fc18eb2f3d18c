-- `file_writer::head_words` meets its contract. Assumes nothing.
use Rattle.file_writer.proofs.WriteLaws.{head-refused, head-written}
use Rattle.file_writer.proofs.head_words.Goals as goal

pub returns-then-not-fits : goal.returns-then-not-fits
returns-then-not-fits c = head-refused c.args.party c.args.day c.args.lines c.if-not-fits.true

pub returns : goal.returns
returns c = head-written c.args.party c.args.day c.args.lines c.if-not-fits.false
